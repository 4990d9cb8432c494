-- Two ways to say that equations stand behind those that define what they read.
use Rattle.std.proofs.Common.{◌≡◌, ℕ, zero, suc, Bool, true, false, List, [], ◌∷◌, ◌++◌, refl, sym, subst, arith}
use Rattle.std.specs.List.{AllByRecursion, flat_map}
use Rattle.hp_flat.specs.declared.equation.Atom.{Atom}
use Rattle.hp_flat.specs.declared.equation.Atom.TheVariants.{Variable, Value as Fixed}
use Rattle.hp_flat.specs.Equations.{Right, operator, register, called, FlatEqn}
use Rattle.law_equations.specs.Meaning.Reactions.{has}
use Rattle.law_equations.specs.Meaning.Fitting.{atom_variables}
use Rattle.law_equations.specs.Meaning.Scheduling.{clock_variables, right_reads, reads, IsUndefined, IsScheduled}
use Rattle.hp_normal.specs.Reading.{count, atom_variables as variables_of}
use Rattle.hp_normal.specs.Following.{defined, needs, eqn_needs, AreBehind}
use Rattle.hp_normal.proofs.DefinerLaws.{count-append}
use Rattle.law_equations.proofs.FewerLemmas.Members.{each_map, each_at, each_counted, has-count, count-has}
use Rattle.law_equations.proofs.FewerLemmas.SubstituteLaws.{each_append, each_first, each_second}

atoms_as : (a : Atom) → variables_of a ≡ atom_variables a
atoms_as (Variable x) = refl
atoms_as (Fixed v) = refl

needs_as : (r : Right) → needs r ≡ right_reads r
needs_as (operator op args) = λ i. flat_map (λ a. atoms_as a i) args
needs_as (register first next) = refl
needs_as (called f args) = λ i. flat_map (λ a. atoms_as a i) args

module _ (P : ℕ → Type 0) (e : FlatEqn) where
  needs_of_reads : AllByRecursion P (reads e) → AllByRecursion P (eqn_needs e)
  needs_of_reads h =
      let behind : AllByRecursion P (e.restart ++ right_reads e.right) = each_second P (clock_variables e.clock) (e.restart ++ right_reads e.right) h in
      each_append P (clock_variables e.clock) (needs e.right ++ e.restart) (each_first P (clock_variables e.clock) (e.restart ++ right_reads e.right) h)
      (each_append P (needs e.right) e.restart (subst (AllByRecursion P) (sym (needs_as e.right)) (each_second P e.restart (right_reads e.right) behind)) (each_first P e.restart (right_reads e.right) behind))

  reads_of_needs : AllByRecursion P (eqn_needs e) → AllByRecursion P (reads e)
  reads_of_needs h =
      let behind : AllByRecursion P (needs e.right ++ e.restart) = each_second P (clock_variables e.clock) (needs e.right ++ e.restart) h in
      each_append P (clock_variables e.clock) (e.restart ++ right_reads e.right) (each_first P (clock_variables e.clock) (needs e.right ++ e.restart) h)
      (each_append P e.restart (right_reads e.right) (each_second P (needs e.right) e.restart behind) (subst (AllByRecursion P) (needs_as e.right) (each_first P (needs e.right) e.restart behind)))

none_counted : (d : ℕ) (xs : List ℕ) (x : ℕ) → count x xs ≡ d → has xs x ≡ false → d ≡ 0
none_counted zero xs x e h = refl
none_counted (suc d) xs x e h = let there : has xs x ≡ true = count-has xs x (omega (arith, e)) in absurd (cc)

none_has : (d : Bool) (xs : List ℕ) (x : ℕ) → has xs x ≡ d → count x xs ≡ 0 → d ≡ false
none_has true xs x e h = absurd (omega (arith, has-count xs x e, h))
none_has false xs x e h = refl

undefined-count : (es : List FlatEqn) (x : ℕ) → IsUndefined es x → count x (defined es) ≡ 0
undefined-count [] x h = refl
undefined-count (e ∷ es) x h = omega (arith, count-append x e.targets (defined es), none_counted (count x e.targets) e.targets x refl h.0, undefined-count es x h.1)

count-undefined : (es : List FlatEqn) (x : ℕ) → count x (defined es) ≡ 0 → IsUndefined es x
count-undefined [] x h = tt
count-undefined (e ∷ es) x h =
    (none_has (has e.targets x) e.targets x refl (omega (arith, h, count-append x e.targets (defined es))), count-undefined es x (omega (arith, h, count-append x e.targets (defined es))))

pub to-behind : (es : List FlatEqn) → IsScheduled es → AreBehind es
to-behind [] h = tt
to-behind (e ∷ es) h = (
  λ x c. each_at (λ z. count z (defined (e ∷ es)) ≡ 0) (eqn_needs e) x
      (needs_of_reads (λ z. count z (defined (e ∷ es)) ≡ 0) e (each_map (IsUndefined (e ∷ es)) (λ z. count z (defined (e ∷ es)) ≡ 0) (λ z u. undefined-count (e ∷ es) z u) (reads e) h.0)) c,
  to-behind es h.1,
)

pub from-behind : (es : List FlatEqn) → AreBehind es → IsScheduled es
from-behind [] h = tt
from-behind (e ∷ es) h =
    (reads_of_needs (IsUndefined (e ∷ es)) e (each_counted (IsUndefined (e ∷ es)) (eqn_needs e) (λ z c. count-undefined (e ∷ es) z (h.0 z c))), from-behind es h.1)
