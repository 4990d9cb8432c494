-- Of two values, lists of values or nodes it is known whether they are the same.
use Rattle.std.proofs.Common.{◌≡◌, ℕ, zero, suc, inl, inr, List, refl, ap, ap₂, arith, ⊎_elim}
use Rattle.std.specs.Prelude.{Bool, true, false, IsTrue, IsFalse, ◌⊎◌}
use Rattle.std.specs.Coded.{Coded, coded_list}
use base.Stored.{Gv, gnil, gnum, gcons}
use Rattle.hp_base.specs.declared.value.Value.{Value}
use Rattle.hp_base.specs.contracts.value.Value as value
use Rattle.hp_tree.specs.Programs.{Node}
use Rattle.hp_tree.specs.ProgramCodes.{node_code}

abbrev pub Same : {A : Type 0} → A → A → Type 0
Same x y = (x ≡ y) ⊎ (x ≡ y → ⊥)

same_number : (m n : ℕ) → Same m n
same_number zero zero = inl refl
same_number zero (suc n) = inr (λ e. absurd (omega arith))
same_number (suc m) zero = inr (λ e. absurd (omega arith))
same_number (suc m) (suc n) = ⊎_elim (λ e. inl (ap suc e)) (λ f. inr (λ e. f (omega arith))) (same_number m n)

same_code : (x y : Gv) → Same x y
same_code gnil gnil = inl refl
same_code (gnum m) (gnum n) = ⊎_elim (λ e. inl (ap gnum e)) (λ f. inr (λ e. f (cc))) (same_number m n)
same_code (gcons a b) (gcons c d) =
    ⊎_elim (λ e. ⊎_elim (λ h. inl (ap₂ gcons e h)) (λ f. inr (λ h. f (cc))) (same_code b d)) (λ f. inr (λ e. f (cc))) (same_code a c)
same_code x y = inr (λ e. absurd (cc))

same_coded : {A : Type 0} (k : Coded A) (x y : A) → Same x y
same_coded k x y = ⊎_elim (λ e. inl (k.inj x y e)) (λ f. inr (λ e. f (ap k.code e))) (same_code (k.code x) (k.code y))

pub same_value : (v w : Value) → Same v w
same_value v w = same_coded value.the_row.coded v w

pub same_values : (vs ws : List Value) → Same vs ws
same_values vs ws = same_coded (coded_list value.the_row.coded) vs ws

pub same_node : (n m : Node) → Same n m
same_node n m = same_coded node_code n m

-- ---- a test of it

abbrev pub told : {A : Type 0} {x y : A} → Same x y → Bool
told (inl e) = true
told (inr f) = false

pub told_same : {A : Type 0} {x y : A} (s : Same x y) → x ≡ y → IsTrue (told s)
told_same (inl e) h = refl
told_same (inr f) h = absurd (f h)

pub told_other : {A : Type 0} {x y : A} (s : Same x y) → (x ≡ y → ⊥) → IsFalse (told s)
told_other (inl e) h = absurd (h e)
told_other (inr f) h = refl

pub same_told : {A : Type 0} {x y : A} (s : Same x y) → IsTrue (told s) → x ≡ y
same_told (inl e) h = e
same_told (inr f) h = absurd (no h)
  where
    no : IsTrue false → ⊥
    no e = absurd (cc)
