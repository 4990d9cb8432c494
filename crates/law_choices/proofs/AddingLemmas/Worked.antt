-- A copy that is added to a node.
use Rattle.std.proofs.Common.{◌≡◌, inl, inr, ℕ, nat_eq, [], ◌∷◌, refl, sym, subst, arith}
use Rattle.std.specs.Prelude.{Contains}
use Rattle.std.specs.List.{IsDistinct}
use Rattle.std.proofs.lemmas.List.Elements.{All-contains, All-from_recursion, Contains-append_right}
use Rattle.hp_base.specs.Kinds.{Bools}
use Rattle.hp_flat.specs.Equations.{FlatEqn}
use Rattle.law_equations.specs.Meaning.Kinding.{Callees}
use Rattle.law_choices.specs.Closed.Closed.{IsTarget}
use Rattle.law_choices.specs.Closed.Clocking.{IsDefinedOn, by_cases}
use Rattle.law_choices.specs.Adding.Adding.{IsNewIn, Adds}
use Rattle.law_choices.specs.Adding.Laws.{copied, with_copy, SomeAddingLaw}
use Rattle.law_choices.proofs.ClosedLemmas.ClosedLaws.{first_one}

alone : (x : ℕ) → IsDistinct nat_eq (x ∷ [])
unfolding IsDistinct
alone x = (tt, tt)

-- the new variable is the third one
new_one : (x : ℕ) → IsNewIn by_cases with_copy x → x ≡ 2
new_one x (inl h) = absurd (omega (arith, h.0, h.1))
new_one x (inr h) = omega (arith, h.0, h.1)

defined_one : (x : ℕ) → IsNewIn by_cases with_copy x → IsTarget (copied ∷ []) x
defined_one x h = (copied, first_one copied [], subst (Contains (2 ∷ [])) (sym (new_one x h)) (first_one 2 []))

on_base : (x : ℕ) → IsTarget (copied ∷ []) x → IsDefinedOn with_copy x []
on_base x t =
    let each : FlatEqn → Type 0 = λ (e : FlatEqn). e.clock ≡ [] in
    (t.0, Contains-append_right by_cases.eqns (copied ∷ []) t.0 t.1, t.2, All-contains each (copied ∷ []) t.0 (All-from_recursion each (copied ∷ []) (refl, tt)) t.1)

adds : (callees : Callees) → Adds [] callees by_cases with_copy (copied ∷ [])
adds callees = record {
  added = _;
  variables = refl;
  inputs = omega arith;
  eqns = refl;
  outputs = (omega arith, tt);
  within = (record { targets = (omega arith, tt); clock = tt; operands = (omega arith, tt); restart = tt }, tt);
  new = ((inr (omega arith, omega arith), tt), tt);
  defined = defined_one;
  differ = (alone 2, tt);
  values = (tt, tt);
  kinds = (record { right = (Bools ∷ [], (refl, tt), Bools, refl, refl); clock = tt; restart = tt }, tt);
  parted = (tt, tt);
}

pub some_adding_law : SomeAddingLaw
some_adding_law callees = (
  adds callees,
  record {
    own = λ x h k. refl;
    inputs = λ x h. refl;
    outputs = (refl, tt);
    steps = (tt, tt);
    reads = ((([], refl), tt), tt);
    defined = λ x t. inl (on_base x t);
  },
)
