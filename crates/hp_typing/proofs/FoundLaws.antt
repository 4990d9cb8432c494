-- What is found first, claim by claim.
use Rattle.std.proofs.Common.{◌≡◌, ℕ, ◌+◌, ◌<◌, ◌≤◌, Bool, true, false, if◌then◌else◌, get_or, length, drop, List, [], ◌∷◌, ◌++◌, fold, Option, None, Some, refl, sym, ap, ◌∙◌, arith}
use Rattle.std.proofs.lemmas.List.{append_assoc, drop_all}
use Rattle.std.proofs.lemmas.Grind.{fold-append}
use Rattle.std.proofs.lemmas.Bool.Decides.{nat_tests}
use Rattle.std.proofs.Math.Seq.{drop-cons}
use Rattle.std.proofs.Math.Numerals.{add-one}
use Rattle.hp_base.specs.declared.span.Span.{Span}
use Rattle.hp_base.specs.First.First.{sooner, merged}
use Rattle.hp_base.proofs.FirstLemmas.FirstLaws.{merged-fold}
use Rattle.hp_typing.specs.Breaches.{Breach, place_of, breach_in, breaches, found_after}
use Rattle.hp_typing.specs.Claims.{Claim}

-- an element of a list, and what is behind it
pub drop-next : {A : Type 0} (xs : List A) (i : ℕ) (x : A) → i < length xs → x ≡ get_or xs i x → drop i xs ≡ x ∷ drop (i + 1) xs
drop-next xs i x h p = drop-cons xs i x h ∙ rw (add-one, ← p)

pub drop-end : {A : Type 0} (xs : List A) (i : ℕ) → length xs ≤ i → drop i xs ≡ []
drop-end xs i h = drop_all i xs h

pub breaches-append : (cs ds : List Claim) → breaches (cs ++ ds) ≡ breaches cs ++ breaches ds
breaches-append [] ds = refl
breaches-append (c ∷ cs) ds = ap (λ bs. breach_in c ++ bs) (breaches-append cs ds) ∙ sym (append_assoc (breach_in c) (breaches cs) (breaches ds))

module _ (found : Option Breach) where
  pub found_after-nil : found_after found [] ≡ found
  unfolding found_after
  found_after-nil = refl

  pub found_after-append : (cs ds : List Claim) → found_after found (cs ++ ds) ≡ found_after (found_after found cs) ds
  unfolding found_after
  found_after-append cs ds = ap (fold (sooner place_of) found) (breaches-append cs ds) ∙ fold-append (sooner place_of) found (breaches cs) (breaches ds)

  pub found_after-cons : (c : Claim) (ds : List Claim) → found_after found (c ∷ ds) ≡ found_after (found_after found (c ∷ [])) ds
  found_after-cons c ds = found_after-append (c ∷ []) ds

-- ---- what is found elsewhere

-- claims may be looked at apart
pub merged-found_after : (found : Option Breach) (cs : List Claim) → merged place_of found (found_after None cs) ≡ found_after found cs
unfolding found_after
merged-found_after found cs = sym (merged-fold place_of found None (breaches cs))
