-- A node whose variables have clocks.
use Rattle.std.proofs.Common.{◌≡◌, inr, ℕ, zero, suc, [], ◌∷◌, refl, sym, subst, arith}
use Rattle.std.specs.List.{AllByRecursion}
use Rattle.std.proofs.lemmas.List.Elements.{All-contains, All-from_recursion}
use Rattle.hp_base.specs.Kinds.{Bools}
use Rattle.hp_flat.specs.Equations.{Clock, FlatEqn}
use Rattle.law_equations.specs.Meaning.Kinding.{HasArm}
use Rattle.law_choices.specs.Closed.Closed.{IsTarget}
use Rattle.law_choices.specs.Closed.Clocking.{IsDefinedOn, IsSplit, copy_where, by_cases, SomeLaw}
use Rattle.law_choices.proofs.ClosedLemmas.ClosedLaws.{first_one, later_one}

abbrev pub base : ℕ → Clock
base x = []

-- only one variable is defined
pub is_one : (x : ℕ) → IsTarget by_cases.eqns x → x ≡ 1
is_one x t =
    let each : AllByRecursion (λ (e : FlatEqn). AllByRecursion (λ y. y ≡ 1) e.targets) by_cases.eqns = ((refl, tt), ((refl, tt), tt)) in
    let own = All-contains (λ (e : FlatEqn). AllByRecursion (λ y. y ≡ 1) e.targets) by_cases.eqns t.0 (All-from_recursion (λ (e : FlatEqn). AllByRecursion (λ y. y ≡ 1) e.targets) by_cases.eqns each) t.1 in
    All-contains (λ y. y ≡ 1) t.0.targets x (All-from_recursion (λ y. y ≡ 1) t.0.targets own) t.2

arm : (c : ℕ) → HasArm Bools c → IsDefinedOn by_cases 1 ((0, c) ∷ [])
arm zero h = (copy_where 0, later_one (copy_where 1) (copy_where 0) (copy_where 0 ∷ []) (first_one (copy_where 0) []), first_one 1 [], refl)
arm (suc zero) h = (copy_where 1, first_one (copy_where 1) (copy_where 0 ∷ []), first_one 1 [], refl)
arm (suc (suc c)) h = absurd (omega (arith, h))

pub split : IsSplit by_cases [] base 1
split = record { tested = 0; there = ([], refl); has_one = omega arith; arms = arm }

pub some_law : SomeLaw
some_law = (
  base,
  record {
    outputs = (refl, tt);
    steps = ((([], refl), tt), ((([], refl), tt), tt));
    reads = ((((0, 1) ∷ [], refl), tt), ((((0, 0) ∷ [], refl), tt), tt));
    defined = λ x t. inr (subst (λ y. IsSplit by_cases [] base y) (sym (is_one x t)) split);
  },
)
