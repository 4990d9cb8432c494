-- A function that is true wherever another is: what is seen at once, and at a variable.
use Rattle.std.proofs.Common.{◌≡◌, ℕ, ◌<◌, Bool, true, false, IsTrue, nat_eq, refl, sym, ap, subst, ◌∙◌, arith, if◌then◌else◌}
use Rattle.std.proofs.lemmas.Bool.{false≢true, eqb-true, eq-eqb}
use Rattle.hp_diagram.specs.declared.reference.Ref.{Ref}
use Rattle.hp_diagram.specs.Diagrams.{Diagrams, function, Has, level, IsReduced, HasChildren, zero_ref, one_ref}
use Rattle.hp_diagram.proofs.Canonical.{Valuation, with_value, with_value-same, with_value-later, function-agree, same_from_functions}
use Rattle.hp_diagram.proofs.Kept.{function-zero, function-one}
use Rattle.hp_quant.specs.Implications.{Implies}

-- two references are one where their indices are
pub same_reference : (a b c : Ref) (test : Bool) → test ≡ nat_eq a.index b.index → test ≡ true → b ≡ c → a ≡ c
same_reference a b c test e h same = let index : a.index ≡ b.index = eqb-true a.index b.index (sym e ∙ h) in (λ j. record { index = index j }) ∙ same

pub other_reference : (a b c : Ref) (test : Bool) → test ≡ nat_eq a.index b.index → test ≡ false → b ≡ c → a ≡ c → ⊥
other_reference a b c test e h same one =
    false≢true (sym h ∙ e ∙ eq-eqb a.index b.index (ap (λ (r : Ref). r.index) (one ∙ sym same)))

-- a truth value that is not true is false
not_true : (a : Bool) → (IsTrue a → ⊥) → a ≡ false
not_true true h = absurd (h refl)
not_true false h = refl

module _ (t : Diagrams) (reduced : IsReduced t) where
  -- what false implies, what implies true, and each function itself
  pub Implies-zero : (f g : Ref) → f ≡ zero_ref → Implies t f g
  Implies-zero f g e v h = absurd (false≢true (sym (function-zero t v f (ap (λ (r : Ref). r.index) e)) ∙ h))

  pub Implies-one : (f g : Ref) → g ≡ one_ref → Implies t f g
  Implies-one f g e v h = function-one t v g (ap (λ (r : Ref). r.index) e)

  pub Implies-same : (f g : Ref) → f ≡ g → Implies t f g
  Implies-same f g e v h = subst (λ (r : Ref). IsTrue (function t r v)) e h

  -- what true implies is true, and what implies false is false
  pub one-implies : (f g : Ref) → Has t g → f ≡ one_ref → Implies t f g → g ≡ one_ref
  one-implies f g has e implies =
      same_from_functions t reduced g one_ref has (omega arith) (λ v. implies v (function-one t v f (ap (λ (r : Ref). r.index) e)) ∙ sym (function-one t v one_ref refl))

  pub implies-zero : (f g : Ref) → Has t f → g ≡ zero_ref → Implies t f g → f ≡ zero_ref
  implies-zero f g has e implies =
      same_from_functions t reduced f zero_ref has (omega arith)
      (λ v. not_true (function t f v) (λ h. false≢true (sym (function-zero t v g (ap (λ (r : Ref). r.index) e)) ∙ implies v h)) ∙ sym (function-zero t v zero_ref refl))

  -- ---- at a variable that comes before all that the two functions read otherwise
  module _ (x : ℕ) (f g f_low f_high g_low g_high : Ref) (at_f : HasChildren t f x f_low f_high) (at_g : HasChildren t g x g_low g_high) where
    by_value : (c : Bool) (v : Valuation) (r low high : Ref) → HasChildren t r x low high → v x ≡ c → function t r v ≡ (if c then function t high v else function t low v)
    by_value c v r low high at e = at.value v ∙ ap (λ b. if b then function t high v else function t low v) e

    there : (c : Bool) (v : Valuation) → with_value v x c x ≡ c
    there c v = with_value-same v x c

    later : (c : Bool) (v : Valuation) (r : Ref) → x < level t r → function t r (with_value v x c) ≡ function t r v
    later c v r behind = function-agree t reduced r (with_value v x c) v (λ y from. with_value-later v x c y (omega (arith, behind, from)))

    pub low-implies : Implies t f g → Implies t f_low g_low
    low-implies implies v h =
        let w = with_value v x false in
        let f_true : IsTrue (function t f w) = by_value false w f f_low f_high at_f (there false v) ∙ later false v f_low at_f.low_later ∙ h in
        sym (later false v g_low at_g.low_later) ∙ sym (by_value false w g g_low g_high at_g (there false v)) ∙ implies w f_true

    pub high-implies : Implies t f g → Implies t f_high g_high
    high-implies implies v h =
        let w = with_value v x true in
        let f_true : IsTrue (function t f w) = by_value true w f f_low f_high at_f (there true v) ∙ later true v f_high at_f.high_later ∙ h in
        sym (later true v g_high at_g.high_later) ∙ sym (by_value true w g g_low g_high at_g (there true v)) ∙ implies w f_true
