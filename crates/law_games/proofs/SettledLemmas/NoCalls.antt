-- Where no call is among the points of a part, it makes none.
use Rattle.std.proofs.Common.{◌≡◌, ℕ, List, [], ◌∷◌, refl, sym, ◌∙◌}
use Rattle.std.proofs.lemmas.List.Elements.{filter-append}
use Rattle.std.specs.Prelude.{Bool, false, ◌++◌, filter, Option, None, Some}
use Rattle.hp_tree.specs.declared.block.Trans.{Trans}
use Rattle.hp_tree.specs.Expressions.{Expr, constant, variable, last_of, one, two, choose, pre, fby, arrow, when_is, merge, call, Parts, no_part, more_parts}
use Rattle.hp_tree.specs.Blocks.{Block, block, Eqns, no_eqn, more_eqns, Eqn, define, switch, reset, automaton, Arms, no_arm, more_arms, States, no_state, more_states}
use Rattle.hp_tree.specs.Programs.{Contract}
use Rattle.hp_tree.specs.Instant.{Observer, Assume, Enforce, Named, Equations, Head, Tail, Right, Test, Arms as ArmsOf, States as StatesOf, Until, Unless, Body, First, Second, Third, Args, Place}
use Rattle.hp_tree.specs.Meaning.{names_of}
use Rattle.hp_meaning.specs.Causal.Sources.{below}
use Rattle.hp_meaning.specs.Causal.Points.{Placed, Whereabouts, calls, calls_in_parts, conditions, lefts, defined_by, points_of, points_of_all, points_of_one, points_of_arms, points_of_states, calls_told, points_of_contract}
use Rattle.hp_meaning.specs.Contract.FreePlaces.{is_call}
use Rattle.law_games.proofs.SettledLemmas.Calling.{ExprCalls, PartsCall, TestsCall, BlockCalls, EqnsCall, EqnCalls, ArmsCall, StatesCall, ToldCalls, ContractCalls}

abbrev called : Placed → Bool
called c = is_call c.point.kind

abbrev NoCall : List Placed → Type 0
NoCall ps = filter called ps ≡ []

first_empty : (xs ys : List Placed) → xs ++ ys ≡ [] → xs ≡ []
first_empty [] ys e = refl
first_empty (x ∷ xs) ys e = absurd (cc)

second_empty : (xs ys : List Placed) → xs ++ ys ≡ [] → ys ≡ []
second_empty [] ys e = e
second_empty (x ∷ xs) ys e = absurd (cc)

first : (xs ys : List Placed) → NoCall (xs ++ ys) → NoCall xs
first xs ys h = first_empty (filter called xs) (filter called ys) (sym (filter-append called xs ys) ∙ h)

second : (xs ys : List Placed) → NoCall (xs ++ ys) → NoCall ys
second xs ys h = second_empty (filter called xs) (filter called ys) (sym (filter-append called xs ys) ∙ h)

mutual
  expr_none : (e : Expr) (w : Whereabouts) → NoCall (calls e w) → ExprCalls false e
  expr_none (constant at c) w h = tt
  expr_none (variable at x) w h = tt
  expr_none (last_of at x) w h = tt
  expr_none (one at o a) w h = expr_none a (below First w) h
  expr_none (two at o a b) w h =
      (expr_none a (below First w) (first (calls a (below First w)) (calls b (below Second w)) h), expr_none b (below Second w) (second (calls a (below First w)) (calls b (below Second w)) h))
  expr_none (choose at a b c) w h =
      let k = second (calls a (below First w)) (calls b (below Second w) ++ calls c (below Third w)) h in (
        expr_none a (below First w) (first (calls a (below First w)) (calls b (below Second w) ++ calls c (below Third w)) h),
        (expr_none b (below Second w) (first (calls b (below Second w)) (calls c (below Third w)) k), expr_none c (below Third w) (second (calls b (below Second w)) (calls c (below Third w)) k)),
      )
  expr_none (pre at a) w h = expr_none a (below First w) h
  expr_none (fby at a b) w h =
      (expr_none a (below First w) (first (calls a (below First w)) (calls b (below Second w)) h), expr_none b (below Second w) (second (calls a (below First w)) (calls b (below Second w)) h))
  expr_none (arrow at a b) w h =
      (expr_none a (below First w) (first (calls a (below First w)) (calls b (below Second w)) h), expr_none b (below Second w) (second (calls a (below First w)) (calls b (below Second w)) h))
  expr_none (when_is at a c x) w h = expr_none a (below First w) h
  expr_none (merge at x ps) w h = parts_none ps (below Args w) h
  expr_none (call at f inlined es) w h = absurd (cc)

  parts_none : (ps : Parts) (w : Whereabouts) → NoCall (calls_in_parts ps w) → PartsCall false ps
  parts_none no_part w h = tt
  parts_none (more_parts c e ps) w h =
      (expr_none e (below Head w) (first (calls e (below Head w)) (calls_in_parts ps (below Tail w)) h), parts_none ps (below Tail w) (second (calls e (below Head w)) (calls_in_parts ps (below Tail w)) h))

tests_none : (ts : List Trans) (w : Whereabouts) → NoCall (conditions ts w) → TestsCall false ts
tests_none [] w h = tt
tests_none (t ∷ ts) w h =
    (expr_none t.cond (below Head w) (first (calls t.cond (below Head w)) (conditions ts (below Tail w)) h), tests_none ts (below Tail w) (second (calls t.cond (below Head w)) (conditions ts (below Tail w)) h))

mutual
  block_none : (ds : List (List ℕ)) (b : Block) (w : Whereabouts) → NoCall (points_of ds b w) → BlockCalls false b
  block_none ds (block own es) w h = eqns_none (ds ++ names_of own) (λ x. w (Named x ∷ [])) es (below Equations w) h

  eqns_none : (ds : List (List ℕ)) (named : List ℕ → Place) (es : Eqns) (w : Whereabouts) → NoCall (points_of_all ds named es w) → EqnsCall false es
  eqns_none ds named no_eqn w h = tt
  eqns_none ds named (more_eqns e es) w h = (
    eqn_none ds named e (below Head w) (first (points_of_one ds named e (below Head w)) (points_of_all ds named es (below Tail w)) h),
    eqns_none ds named es (below Tail w) (second (points_of_one ds named e (below Head w)) (points_of_all ds named es (below Tail w)) h),
  )

  eqn_none : (ds : List (List ℕ)) (named : List ℕ → Place) (e : Eqn) (w : Whereabouts) → NoCall (points_of_one ds named e w) → EqnCalls false e
  eqn_none ds named (define at ys e) w h = expr_none e (below Right w) (second (lefts ys named) (calls e (below Right w)) h)
  eqn_none ds named (switch at e arms) w h =
      let k = second (defined_by (switch at e arms) at ds named) (calls e (below Test w) ++ points_of_arms ds arms (below ArmsOf w)) h in
      (expr_none e (below Test w) (first (calls e (below Test w)) (points_of_arms ds arms (below ArmsOf w)) k), arms_none ds arms (below ArmsOf w) (second (calls e (below Test w)) (points_of_arms ds arms (below ArmsOf w)) k))
  eqn_none ds named (reset at b e) w h =
      let k = second (defined_by (reset at b e) at ds named) (points_of ds b (below Body w) ++ calls e (below Test w)) h in
      (expr_none e (below Test w) (second (points_of ds b (below Body w)) (calls e (below Test w)) k), block_none ds b (below Body w) (first (points_of ds b (below Body w)) (calls e (below Test w)) k))
  eqn_none ds named (automaton at ss) w h = states_none ds ss (below StatesOf w) (second (defined_by (automaton at ss) at ds named) (points_of_states ds ss (below StatesOf w)) h)

  arms_none : (ds : List (List ℕ)) (arms : Arms) (w : Whereabouts) → NoCall (points_of_arms ds arms w) → ArmsCall false arms
  arms_none ds no_arm w h = tt
  arms_none ds (more_arms c b at arms) w h = (
    block_none ds b (below Head w) (first (points_of ds b (below Head w)) (points_of_arms ds arms (below Tail w)) h),
    arms_none ds arms (below Tail w) (second (points_of ds b (below Head w)) (points_of_arms ds arms (below Tail w)) h),
  )

  states_none : (ds : List (List ℕ)) (ss : States) (w : Whereabouts) → NoCall (points_of_states ds ss w) → StatesCall false ss
  states_none ds no_state w h = tt
  states_none ds (more_states f b until unless at ss) w h =
      let us = conditions until (below Until (below Head w)) in
      let vs = conditions unless (below Unless (below Head w)) in
      let rest = points_of_states ds ss (below Tail w) in
      let k = second (points_of ds b (below Body (below Head w))) (us ++ (vs ++ rest)) h in
      let l = second us (vs ++ rest) k in (
        block_none ds b (below Body (below Head w)) (first (points_of ds b (below Body (below Head w))) (us ++ (vs ++ rest)) h),
        (
          tests_none until (below Until (below Head w)) (first us (vs ++ rest) k),
          (tests_none unless (below Unless (below Head w)) (first vs rest l), states_none ds ss (below Tail w) (second vs rest l)),
        ),
      )

told_none : (o : Option Expr) (w : Whereabouts) → NoCall (calls_told o w) → ToldCalls false o
told_none None w h = tt
told_none (Some e) w h = expr_none e w h

pub contract_none : (o : Option Contract) (w : Whereabouts) → NoCall (points_of_contract o w) → ContractCalls false o
contract_none None w h = tt
contract_none (Some c) w h =
    let a = calls_told c.assume (below Assume w) in
    let g = calls_told c.enforce (below Enforce w) in
    let k = second (points_of [] c.body (below Observer w)) (a ++ g) h in
    (block_none [] c.body (below Observer w) (first (points_of [] c.body (below Observer w)) (a ++ g) h), (told_none c.assume (below Assume w) (first a g k), told_none c.enforce (below Enforce w) (second a g k)))
