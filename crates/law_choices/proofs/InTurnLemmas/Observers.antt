-- The free places of an observer are free in it.
use Rattle.std.proofs.Common.{◌≡◌, ◌⊎◌, inl, inr, ℕ, ◌<◌, Bool, true, false, if◌then◌else◌, List, [], ◌∷◌, ◌++◌, Option, None, Some, refl, sym, ap, subst, ◌∙◌}
use Rattle.std.specs.Prelude.{length, slice_get}
use Rattle.std.specs.List.{AllByRecursion, flat_map}
use Rattle.std.proofs.lemmas.List.{append-nil}
use Rattle.hp_obc.specs.Machines.{ObcType}
use Rattle.hp_tree.specs.Expressions.{Expr}
use Rattle.hp_tree.specs.Blocks.{Block}
use Rattle.hp_tree.specs.Programs.{Contract}
use Rattle.hp_flat.specs.Equations.{Clock, Right, operator, register, called, FlatEqn}
use Rattle.hp_flat.specs.Nodes.{FlatNode}
use Rattle.law_equations.specs.Meaning.Kinding.{Callees, EqnKinds}
use Rattle.law_equations.specs.Meaning.Scheduling.{EqnWithin}
use Rattle.hp_watch.specs.declared.watching.Free.{Free}
use Rattle.hp_watch.specs.Adding.{type_at}
use Rattle.hp_watch.specs.Walk.{events_from, walk_block, walk_condition, walk_contract}
use Rattle.hp_watch.specs.Watching.{is_integer, compares_integers, free_target, free_by, free_of, free_at, clock_of, clock_by}
use Rattle.law_choices.specs.Closed.Clocking.{StepsStand, IsCopy, DefinesOwn}
use Rattle.law_choices.proofs.ClosedLemmas.ClosedLaws.{each_other, each_both}
use Rattle.law_choices.proofs.PlacesLemmas.Relating.{expr-goes, block-goes}
use Rattle.law_choices.specs.Adding.Keeping.{IsBased}
use Rattle.law_choices.specs.Adding.Lifts.{CanStand}
use Rattle.law_choices.specs.Adding.Surveyed.{HasEqn, IsNoCopy}
use Rattle.law_choices.specs.Adding.Watched.{IsFree}
use Rattle.law_choices.proofs.AddingLemmas.Adding.{both}
use Rattle.law_choices.proofs.AddingLemmas.Choosing.{to_along, from_along, events_are}
use Rattle.law_choices.proofs.AddingLemmas.Surveyed.{at_number, number_below, flat_all}
use Rattle.law_choices.specs.InTurn.Observers.{ObserverLaw}

-- ---- a walk finds no more than is there

module _ (P : ℕ → Type 0) where
  abbrev Kept : List ℕ × List ℕ → Type 0
  Kept w = AllByRecursion P w.0 × AllByRecursion P w.1

  block_kept : (b : Block) (xs : List ℕ) → AllByRecursion P xs → Kept (walk_block b xs)
  block_kept b xs h =
      let w = walk_block b xs in
      let g = block-goes (λ (x y : ℕ). P x) b xs xs (to_along P xs h) in
      (from_along P w.0 w.0 g.0, from_along P w.1 w.1 g.1)

  condition_kept : (o : Option Expr) (xs : List ℕ) → AllByRecursion P xs → Kept (walk_condition o xs)
  condition_kept None xs h = (tt, h)
  condition_kept (Some e) xs h =
      let w = walk_condition (Some e) xs in
      let g = expr-goes (λ (x y : ℕ). P x) e xs xs (to_along P xs h) in
      (from_along P w.0 w.0 g.0, from_along P w.1 w.1 g.1)

  contract_kept : (c : Contract) (xs : List ℕ) → AllByRecursion P xs → AllByRecursion P (walk_contract c xs).0
  contract_kept c xs h =
      let body = walk_block c.body xs in
      let first = block_kept c.body xs h in
      let assumed = walk_condition c.assume body.1 in
      let second = condition_kept c.assume body.1 first.1 in
      let enforced = walk_condition c.enforce assumed.1 in
      let third = condition_kept c.enforce assumed.1 second.1 in
      both P (body.0 ++ assumed.0) enforced.0 (both P body.0 assumed.0 first.0 second.0) third.0

-- ---- the free places of an equation

module _ (types : List ObcType) (callees : Callees) (clock : ℕ → Clock) (n : FlatNode) (b : IsBased types callees clock n) (own : AllByRecursion (DefinesOwn clock) n.eqns) where
  abbrev IsHere : Free → Type 0
  IsHere p = IsFree types n clock p × HasEqn p.eqn

  module _ (k : ℕ) (e : FlatEqn) (at : slice_get n.eqns k ≡ Some e) (no_copy : IsCopy e.right → ⊥) where
    clock_is : clock_of n (Some k) ≡ e.clock
    clock_is = ap clock_by at

    within : EqnWithin (length n.variables) e
    within = let w = b.well in let i = w.within in at_number (EqnWithin (length n.variables)) n.eqns k e at i.eqns

    stands : CanStand types n clock (clock_of n (Some k))
    stands =
        let w = b.well in
        let c = w.clocks in
        let i = within in
        let kinds = at_number (EqnKinds types callees n.variables) n.eqns k e at w.kinds in
        subst (CanStand types n clock) (sym clock_is) (record { within = i.clock; steps = at_number (λ (d : FlatEqn). StepsStand n types clock [] d.clock) n.eqns k e at c.steps; arms = kinds.clock })

    target_here : (x : ℕ) → x < length n.variables → (clock x ≡ e.clock) ⊎ IsCopy e.right → AllByRecursion IsHere (free_target n k x)
    target_here x l (inr c) = absurd (no_copy c)
    target_here x l (inl same) = by (is_integer (type_at n x))
      where
        by : (q : Bool) → AllByRecursion IsHere (if q then [] else record { variable = x; eqn = Some k } ∷ [])
        by true = tt
        by false = ((record { numbered = number_below n.eqns k e at; stands = stands; there = record { variable = l; there = ([], clock_is ∙ sym same ∙ sym (append-nil (clock x))); type = refl } }, tt), tt)

    targets_here : AllByRecursion IsHere (flat_map (free_target n k) e.targets)
    targets_here =
        let i = within in
        flat_all IsHere (free_target n k) e.targets
        (each_both (λ x. x < length n.variables) (λ x. (clock x ≡ e.clock) ⊎ IsCopy e.right) (λ x. AllByRecursion IsHere (free_target n k x)) target_here e.targets i.targets (at_number (DefinesOwn clock) n.eqns k e at own))

    right_here : (r : Right) → AllByRecursion IsHere (free_by n k r e.targets)
    right_here (operator o args) = by (compares_integers n args)
      where
        by : (q : Bool) → AllByRecursion IsHere (if q then flat_map (free_target n k) e.targets else [])
        by true = targets_here
        by false = tt
    right_here (register first next) = tt
    right_here (called f args) = targets_here

    eqn_here : AllByRecursion IsHere (free_at n k)
    eqn_here = subst (λ o. AllByRecursion IsHere (free_of n k o)) (sym at) (right_here e.right)

  number_here : (k : ℕ) → IsNoCopy n k → AllByRecursion IsHere (free_at n k)
  number_here k h = eqn_here k h.0 h.1 h.2

  all_here : (ks : List ℕ) → AllByRecursion (IsNoCopy n) ks → AllByRecursion IsHere (flat_map (free_at n) ks)
  all_here ks h = flat_all IsHere (free_at n) ks (each_other (IsNoCopy n) (λ k. AllByRecursion IsHere (free_at n k)) number_here ks h)

pub observer_law : ObserverLaw
observer_law types callees f c o is =
    let r = is.ready in
    record { own = r.clock; based = r.based; takes = is.takes; free = all_here types callees r.clock o r.based r.own (walk_contract c (events_from 0 o.eqns)).0 (contract_kept (IsNoCopy o) c (events_from 0 o.eqns) (events_are [] o.eqns)) }
