-- A contract that makes no call has no call among its points.
use Rattle.std.proofs.Common.{◌≡◌, ℕ, List, [], ◌∷◌, ◌++◌, map, refl, ap₂, ◌∙◌}
use Rattle.std.specs.Prelude.{Bool, false, filter, Option, None, Some}
use Rattle.std.proofs.lemmas.List.Elements.{filter-append}
use Rattle.hp_base.specs.declared.span.Span.{Span}
use Rattle.hp_tree.specs.declared.block.Trans.{Trans}
use Rattle.hp_tree.specs.Expressions.{Expr, constant, variable, last_of, one, two, choose, pre, fby, arrow, when_is, merge, call, Parts, no_part, more_parts}
use Rattle.hp_tree.specs.Blocks.{Block, block, Eqns, no_eqn, more_eqns, Eqn, define, switch, reset, automaton, Arms, no_arm, more_arms, States, no_state, more_states}
use Rattle.hp_tree.specs.Programs.{Contract}
use Rattle.hp_tree.specs.Instant.{Observer, Assume, Enforce, Named, Equations, Head, Tail, Right, Test, Arms as ArmsOf, States as StatesOf, Until, Unless, Body, First, Second, Third, Args, Place}
use Rattle.hp_tree.specs.Meaning.{defines, names_of}
use Rattle.hp_meaning.specs.declared.causal.point.PointKind.TheVariants as kind
use Rattle.hp_meaning.specs.Causal.Points.{Placed, Whereabouts, point_at, calls, calls_in_parts, conditions, lefts, defined_by, points_of, points_of_all, points_of_one, points_of_arms, points_of_states, calls_told, points_of_contract}
use Rattle.hp_meaning.specs.Causal.Sources.{below}
use Rattle.hp_meaning.specs.Contract.FreePlaces.{is_call}
use Rattle.law_games.proofs.SettledLemmas.Calling.{ExprCalls, PartsCall, TestsCall, BlockCalls, EqnsCall, EqnCalls, ArmsCall, StatesCall, ToldCalls, ContractCalls}

abbrev called : Placed → Bool
called c = is_call c.point.kind

abbrev NoCall : List Placed → Type 0
NoCall ps = filter called ps ≡ []

both : (xs ys : List Placed) → NoCall xs → NoCall ys → NoCall (xs ++ ys)
both xs ys h k = filter-append called xs ys ∙ ap₂ (λ a b. a ++ b) h k

none_defined : (xs : List (List ℕ)) (s : Span) (named : List ℕ → Place) → NoCall (map (λ x. point_at kind.Def x s (named x)) xs)
none_defined [] s named = refl
none_defined (x ∷ xs) s named = none_defined xs s named

none_left : (ys : List (List ℕ × Span)) (named : List ℕ → Place) → NoCall (lefts ys named)
none_left [] named = refl
none_left (y ∷ ys) named = none_left ys named

mutual
  no_calls : (e : Expr) (w : Whereabouts) → ExprCalls false e → NoCall (calls e w)
  no_calls (constant at c) w h = refl
  no_calls (variable at x) w h = refl
  no_calls (last_of at x) w h = refl
  no_calls (one at o a) w h = no_calls a (below First w) h
  no_calls (two at o a b) w h = both (calls a (below First w)) (calls b (below Second w)) (no_calls a (below First w) h.0) (no_calls b (below Second w) h.1)
  no_calls (choose at a b c) w h =
      both (calls a (below First w)) (calls b (below Second w) ++ calls c (below Third w)) (no_calls a (below First w) h.0)
      (both (calls b (below Second w)) (calls c (below Third w)) (no_calls b (below Second w) h.1.0) (no_calls c (below Third w) h.1.1))
  no_calls (pre at a) w h = no_calls a (below First w) h
  no_calls (fby at a b) w h = both (calls a (below First w)) (calls b (below Second w)) (no_calls a (below First w) h.0) (no_calls b (below Second w) h.1)
  no_calls (arrow at a b) w h = both (calls a (below First w)) (calls b (below Second w)) (no_calls a (below First w) h.0) (no_calls b (below Second w) h.1)
  no_calls (when_is at a c x) w h = no_calls a (below First w) h
  no_calls (merge at x ps) w h = no_calls_in_parts ps (below Args w) h
  no_calls (call at f inlined es) w h = absurd (cc)

  no_calls_in_parts : (ps : Parts) (w : Whereabouts) → PartsCall false ps → NoCall (calls_in_parts ps w)
  no_calls_in_parts no_part w h = refl
  no_calls_in_parts (more_parts c e ps) w h = both (calls e (below Head w)) (calls_in_parts ps (below Tail w)) (no_calls e (below Head w) h.0) (no_calls_in_parts ps (below Tail w) h.1)

no_conditions : (ts : List Trans) (w : Whereabouts) → TestsCall false ts → NoCall (conditions ts w)
no_conditions [] w h = refl
no_conditions (t ∷ ts) w h = both (calls t.cond (below Head w)) (conditions ts (below Tail w)) (no_calls t.cond (below Head w) h.0) (no_conditions ts (below Tail w) h.1)

mutual
  no_points : (ds : List (List ℕ)) (b : Block) (w : Whereabouts) → BlockCalls false b → NoCall (points_of ds b w)
  no_points ds (block own es) w h = no_points_of_all (ds ++ names_of own) (λ x. w (Named x ∷ [])) es (below Equations w) h

  no_points_of_all : (ds : List (List ℕ)) (named : List ℕ → Place) (es : Eqns) (w : Whereabouts) → EqnsCall false es → NoCall (points_of_all ds named es w)
  no_points_of_all ds named no_eqn w h = refl
  no_points_of_all ds named (more_eqns e es) w h =
      both (points_of_one ds named e (below Head w)) (points_of_all ds named es (below Tail w)) (no_points_of_one ds named e (below Head w) h.0) (no_points_of_all ds named es (below Tail w) h.1)

  no_points_of_one : (ds : List (List ℕ)) (named : List ℕ → Place) (e : Eqn) (w : Whereabouts) → EqnCalls false e → NoCall (points_of_one ds named e w)
  no_points_of_one ds named (define at ys e) w h = both (lefts ys named) (calls e (below Right w)) (none_left ys named) (no_calls e (below Right w) h)
  no_points_of_one ds named (switch at e arms) w h =
      both (defined_by (switch at e arms) at ds named) (calls e (below Test w) ++ points_of_arms ds arms (below ArmsOf w)) (none_defined (filter (defines (switch at e arms)) ds) at named)
      (both (calls e (below Test w)) (points_of_arms ds arms (below ArmsOf w)) (no_calls e (below Test w) h.0) (no_points_of_arms ds arms (below ArmsOf w) h.1))
  no_points_of_one ds named (reset at b e) w h =
      both (defined_by (reset at b e) at ds named) (points_of ds b (below Body w) ++ calls e (below Test w)) (none_defined (filter (defines (reset at b e)) ds) at named)
      (both (points_of ds b (below Body w)) (calls e (below Test w)) (no_points ds b (below Body w) h.1) (no_calls e (below Test w) h.0))
  no_points_of_one ds named (automaton at ss) w h =
      both (defined_by (automaton at ss) at ds named) (points_of_states ds ss (below StatesOf w)) (none_defined (filter (defines (automaton at ss)) ds) at named) (no_points_of_states ds ss (below StatesOf w) h)

  no_points_of_arms : (ds : List (List ℕ)) (arms : Arms) (w : Whereabouts) → ArmsCall false arms → NoCall (points_of_arms ds arms w)
  no_points_of_arms ds no_arm w h = refl
  no_points_of_arms ds (more_arms c b at arms) w h =
      both (points_of ds b (below Head w)) (points_of_arms ds arms (below Tail w)) (no_points ds b (below Head w) h.0) (no_points_of_arms ds arms (below Tail w) h.1)

  no_points_of_states : (ds : List (List ℕ)) (ss : States) (w : Whereabouts) → StatesCall false ss → NoCall (points_of_states ds ss w)
  no_points_of_states ds no_state w h = refl
  no_points_of_states ds (more_states f b until unless at ss) w h =
      let us = conditions until (below Until (below Head w)) in
      let vs = conditions unless (below Unless (below Head w)) in
      let rest = points_of_states ds ss (below Tail w) in
      both (points_of ds b (below Body (below Head w))) (us ++ (vs ++ rest)) (no_points ds b (below Body (below Head w)) h.0)
      (both us (vs ++ rest) (no_conditions until (below Until (below Head w)) h.1.0)
      (both vs rest (no_conditions unless (below Unless (below Head w)) h.1.1.0) (no_points_of_states ds ss (below Tail w) h.1.1.1)))

no_calls_told : (o : Option Expr) (w : Whereabouts) → ToldCalls false o → NoCall (calls_told o w)
no_calls_told None w h = refl
no_calls_told (Some e) w h = no_calls e w h

pub no_calls_in_contract : (o : Option Contract) (w : Whereabouts) → ContractCalls false o → NoCall (points_of_contract o w)
no_calls_in_contract None w h = refl
no_calls_in_contract (Some c) w h =
    both (points_of [] c.body (below Observer w)) (calls_told c.assume (below Assume w) ++ calls_told c.enforce (below Enforce w)) (no_points [] c.body (below Observer w) h.0)
    (both (calls_told c.assume (below Assume w)) (calls_told c.enforce (below Enforce w)) (no_calls_told c.assume (below Assume w) h.1.0) (no_calls_told c.enforce (below Enforce w) h.1.1))
