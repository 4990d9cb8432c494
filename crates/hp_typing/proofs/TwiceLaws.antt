-- Names that are defined twice, and that this is what is said of them.
use Rattle.std.proofs.Common.{◌≡◌, ℕ, Bool, true, false, ◌↔◌, List, [], ◌∷◌, All, slice_index_or, refl}
use Rattle.hp_base.specs.declared.span.Span.{Span}
use Rattle.hp_typing.specs.declared.uses.Use.{Use}
use Rattle.hp_typing.specs.declared.uses.Use.TheVariants.{Never, Once, Partly, Twice}
use Rattle.hp_typing.specs.Uses.{use_in_eqns}
use Rattle.hp_typing.specs.Definitions.{SomeDefines, DefineAtMostOnce, DefineWhole}
use Rattle.hp_typing.specs.Claims.{Claim, wants, has_equation, has_none, stands_once}
use Rattle.hp_typing.specs.Breaches.{twice, of_variable, of_other, IsTwiceUsed, IsTwiceFirst}
use Rattle.hp_typing.proofs.UseLaws.{Says, says_eqns}

used : (u : Use) (D O W : Type 0) → Says u D O W → (u ≡ Twice) ↔ (O → ⊥)
used Never D O W a = (λ p. absurd cc, λ h. absurd (h a.1.0))
used Once D O W a = (λ p. absurd cc, λ h. absurd (h a.1.0))
used Partly D O W a = (λ p. absurd cc, λ h. absurd (h a.1.0))
used Twice D O W a = (λ p. a.1, λ h. refl)

variable_first : (at : Span) (x : List ℕ) (is_last : Bool) (u : Use) (D O W : Type 0) → Says u D O W
    → (of_variable at x is_last u ≡ twice at x ∷ []) ↔ (O → ⊥)
variable_first at x is_last Never D O W a = (λ p. absurd cc, λ h. absurd (h a.1.0))
variable_first at x is_last Once D O W a = (λ p. absurd cc, λ h. absurd (h a.1.0))
variable_first at x true Partly D O W a = (λ p. absurd cc, λ h. absurd (h a.1.0))
variable_first at x false Partly D O W a = (λ p. absurd cc, λ h. absurd (h a.1.0))
variable_first at x is_last Twice D O W a = (λ p. a.1, λ h. refl)

other_first : (at : Span) (x : List ℕ) (u : Use) (D O W : Type 0) → Says u D O W → (of_other at x u ≡ twice at x ∷ []) ↔ D
other_first at x Never D O W a = (λ p. absurd cc, λ d. absurd (a.0 d))
other_first at x Once D O W a = (λ p. a.0, λ d. refl)
other_first at x Partly D O W a = (λ p. a.0, λ d. refl)
other_first at x Twice D O W a = (λ p. a.0, λ d. refl)

claim_used : (c : Claim) → IsTwiceUsed c
claim_used (wants at t u) = tt
claim_used (has_equation at x is_last es) = used (use_in_eqns es x) (SomeDefines es x) (DefineAtMostOnce es x) (DefineWhole es x) (says_eqns es x)
claim_used (has_none at x es) = used (use_in_eqns es x) (SomeDefines es x) (DefineAtMostOnce es x) (DefineWhole es x) (says_eqns es x)
claim_used (stands_once at c given) = tt

claim_first : (c : Claim) → IsTwiceFirst c
claim_first (wants at t u) = tt
claim_first (has_equation at x is_last es) =
    variable_first at x is_last (use_in_eqns es x) (SomeDefines es x) (DefineAtMostOnce es x) (DefineWhole es x) (says_eqns es x)
claim_first (has_none at x es) = other_first at x (use_in_eqns es x) (SomeDefines es x) (DefineAtMostOnce es x) (DefineWhole es x) (says_eqns es x)
claim_first (stands_once at c given) = tt

-- of the claims on a program
pub twice_used_law : (cs : List Claim) → All IsTwiceUsed cs
twice_used_law cs k d h = claim_used (slice_index_or cs k d)

pub twice_first_law : (cs : List Claim) → All IsTwiceFirst cs
twice_first_law cs k d h = claim_first (slice_index_or cs k d)
