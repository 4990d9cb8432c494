-- Where no call is among the points of the contracts of a program, these call nothing.
use Rattle.std.proofs.Common.{◌≡◌, ℕ, if◌then◌else◌, List, [], ◌∷◌, reverse, refl, sym, subst, ◌∙◌}
use Rattle.std.proofs.lemmas.List.{reverse-append}
use Rattle.std.proofs.lemmas.List.Elements.{filter-append}
use Rattle.std.proofs.lemmas.Option.{same_Some, none-some}
use Rattle.std.specs.Prelude.{Bool, true, false, ◌++◌, filter, Option, None, Some, ⊤}
use Rattle.std.specs.Str.{bytes_eq}
use Rattle.hp_tree.specs.declared.program.Item.{Item}
use Rattle.hp_tree.specs.declared.program.Item.TheVariants.{TypeItem, NodeItem}
use Rattle.hp_tree.specs.declared.block.Trans.{Trans}
use Rattle.hp_tree.specs.Expressions.{Expr, constant, variable, last_of, one, two, choose, pre, fby, arrow, when_is, merge, call, Parts, no_part, more_parts}
use Rattle.hp_tree.specs.Blocks.{Block, block, Eqns, no_eqn, more_eqns, Eqn, define, switch, reset, automaton, Arms, no_arm, more_arms, States, no_state, more_states}
use Rattle.hp_tree.specs.Programs.{Contract, Node}
use Rattle.hp_tree.specs.Instant.{Observer, Assume, Enforce, Named, Equations, Head, Tail, Right, Test, Arms as ArmsOf, States as StatesOf, Until, Unless, Body, First, Second, Third, Args, Place}
use Rattle.hp_tree.specs.Meaning.{names_of, node_among}
use Rattle.hp_meaning.specs.Causal.Sources.{below}
use Rattle.hp_meaning.specs.Causal.Points.{Placed, Whereabouts, calls, calls_in_parts, conditions, lefts, defined_by, points_of, points_of_all, points_of_one, points_of_arms, points_of_states, calls_told, points_of_contract}
use Rattle.hp_meaning.specs.Contract.Forgetting.{ContractsCallNothing}
use Rattle.hp_meaning.specs.Contract.FreePlaces.{is_call}
use Rattle.law_drawing.proofs.SteeredLemmas.Uncalled.{CallsNothing, PartsCallNothing, ConditionsCallNothing, BlockCallsNothing, EqnsCallNothing, EqnCallsNothing, ArmsCallNothing, StatesCallNothing, ToldCallsNothing, ContractCallsNothing}

abbrev pub called : Placed → Bool
called c = is_call c.point.kind

abbrev pub NoCall : List Placed → Type 0
NoCall ps = filter called ps ≡ []

first_empty : (xs ys : List Placed) → xs ++ ys ≡ [] → xs ≡ []
first_empty [] ys e = refl
first_empty (x ∷ xs) ys e = absurd (cc)

second_empty : (xs ys : List Placed) → xs ++ ys ≡ [] → ys ≡ []
second_empty [] ys e = e
second_empty (x ∷ xs) ys e = absurd (cc)

pub first : (xs ys : List Placed) → NoCall (xs ++ ys) → NoCall xs
first xs ys h = first_empty (filter called xs) (filter called ys) (sym (filter-append called xs ys) ∙ h)

pub second : (xs ys : List Placed) → NoCall (xs ++ ys) → NoCall ys
second xs ys h = second_empty (filter called xs) (filter called ys) (sym (filter-append called xs ys) ∙ h)

mutual
  expr_none : (e : Expr) (w : Whereabouts) → NoCall (calls e w) → CallsNothing e
  expr_none (constant at c) w h = tt
  expr_none (variable at x) w h = tt
  expr_none (last_of at x) w h = tt
  expr_none (one at o a) w h = expr_none a (below First w) h
  expr_none (two at o a b) w h =
      (expr_none a (below First w) (first (calls a (below First w)) (calls b (below Second w)) h), expr_none b (below Second w) (second (calls a (below First w)) (calls b (below Second w)) h))
  expr_none (choose at a b c) w h =
      let k = second (calls a (below First w)) (calls b (below Second w) ++ calls c (below Third w)) h in (
        expr_none a (below First w) (first (calls a (below First w)) (calls b (below Second w) ++ calls c (below Third w)) h),
        expr_none b (below Second w) (first (calls b (below Second w)) (calls c (below Third w)) k),
        expr_none c (below Third w) (second (calls b (below Second w)) (calls c (below Third w)) k),
      )
  expr_none (pre at a) w h = expr_none a (below First w) h
  expr_none (fby at a b) w h =
      (expr_none a (below First w) (first (calls a (below First w)) (calls b (below Second w)) h), expr_none b (below Second w) (second (calls a (below First w)) (calls b (below Second w)) h))
  expr_none (arrow at a b) w h =
      (expr_none a (below First w) (first (calls a (below First w)) (calls b (below Second w)) h), expr_none b (below Second w) (second (calls a (below First w)) (calls b (below Second w)) h))
  expr_none (when_is at a c x) w h = expr_none a (below First w) h
  expr_none (merge at x ps) w h = parts_none ps (below Args w) h
  expr_none (call at f inlined es) w h = absurd (cc)

  parts_none : (ps : Parts) (w : Whereabouts) → NoCall (calls_in_parts ps w) → PartsCallNothing ps
  parts_none no_part w h = tt
  parts_none (more_parts c e ps) w h =
      (expr_none e (below Head w) (first (calls e (below Head w)) (calls_in_parts ps (below Tail w)) h), parts_none ps (below Tail w) (second (calls e (below Head w)) (calls_in_parts ps (below Tail w)) h))

tests_none : (ts : List Trans) (w : Whereabouts) → NoCall (conditions ts w) → ConditionsCallNothing ts
tests_none [] w h = tt
tests_none (t ∷ ts) w h =
    (expr_none t.cond (below Head w) (first (calls t.cond (below Head w)) (conditions ts (below Tail w)) h), tests_none ts (below Tail w) (second (calls t.cond (below Head w)) (conditions ts (below Tail w)) h))

mutual
  pub block_none : (ds : List (List ℕ)) (b : Block) (w : Whereabouts) → NoCall (points_of ds b w) → BlockCallsNothing b
  block_none ds (block own es) w h = eqns_none (ds ++ names_of own) (λ x. w (Named x ∷ [])) es (below Equations w) h

  eqns_none : (ds : List (List ℕ)) (named : List ℕ → Place) (es : Eqns) (w : Whereabouts) → NoCall (points_of_all ds named es w) → EqnsCallNothing es
  eqns_none ds named no_eqn w h = tt
  eqns_none ds named (more_eqns e es) w h = (
    eqn_none ds named e (below Head w) (first (points_of_one ds named e (below Head w)) (points_of_all ds named es (below Tail w)) h),
    eqns_none ds named es (below Tail w) (second (points_of_one ds named e (below Head w)) (points_of_all ds named es (below Tail w)) h),
  )

  eqn_none : (ds : List (List ℕ)) (named : List ℕ → Place) (e : Eqn) (w : Whereabouts) → NoCall (points_of_one ds named e w) → EqnCallsNothing e
  eqn_none ds named (define at ys e) w h = expr_none e (below Right w) (second (lefts ys named) (calls e (below Right w)) h)
  eqn_none ds named (switch at e arms) w h =
      let k = second (defined_by (switch at e arms) at ds named) (calls e (below Test w) ++ points_of_arms ds arms (below ArmsOf w)) h in
      (expr_none e (below Test w) (first (calls e (below Test w)) (points_of_arms ds arms (below ArmsOf w)) k), arms_none ds arms (below ArmsOf w) (second (calls e (below Test w)) (points_of_arms ds arms (below ArmsOf w)) k))
  eqn_none ds named (reset at b e) w h =
      let k = second (defined_by (reset at b e) at ds named) (points_of ds b (below Body w) ++ calls e (below Test w)) h in
      (block_none ds b (below Body w) (first (points_of ds b (below Body w)) (calls e (below Test w)) k), expr_none e (below Test w) (second (points_of ds b (below Body w)) (calls e (below Test w)) k))
  eqn_none ds named (automaton at ss) w h = states_none ds ss (below StatesOf w) (second (defined_by (automaton at ss) at ds named) (points_of_states ds ss (below StatesOf w)) h)

  arms_none : (ds : List (List ℕ)) (arms : Arms) (w : Whereabouts) → NoCall (points_of_arms ds arms w) → ArmsCallNothing arms
  arms_none ds no_arm w h = tt
  arms_none ds (more_arms c b at arms) w h = (
    block_none ds b (below Head w) (first (points_of ds b (below Head w)) (points_of_arms ds arms (below Tail w)) h),
    arms_none ds arms (below Tail w) (second (points_of ds b (below Head w)) (points_of_arms ds arms (below Tail w)) h),
  )

  states_none : (ds : List (List ℕ)) (ss : States) (w : Whereabouts) → NoCall (points_of_states ds ss w) → StatesCallNothing ss
  states_none ds no_state w h = tt
  states_none ds (more_states f b until unless at ss) w h =
      let us = conditions until (below Until (below Head w)) in
      let vs = conditions unless (below Unless (below Head w)) in
      let rest = points_of_states ds ss (below Tail w) in
      let k = second (points_of ds b (below Body (below Head w))) (us ++ (vs ++ rest)) h in
      let l = second us (vs ++ rest) k in (
        block_none ds b (below Body (below Head w)) (first (points_of ds b (below Body (below Head w))) (us ++ (vs ++ rest)) h),
        tests_none until (below Until (below Head w)) (first us (vs ++ rest) k),
        tests_none unless (below Unless (below Head w)) (first vs rest l),
        states_none ds ss (below Tail w) (second vs rest l),
      )

told_none : (o : Option Expr) (w : Whereabouts) → NoCall (calls_told o w) → ToldCallsNothing o
told_none None w h = tt
told_none (Some e) w h = expr_none e w h

pub contract_none : (o : Option Contract) (w : Whereabouts) → NoCall (points_of_contract o w) → ContractCallsNothing o
contract_none None w h = tt
contract_none (Some c) w h =
    let a = calls_told c.assume (below Assume w) in
    let g = calls_told c.enforce (below Enforce w) in
    let k = second (points_of [] c.body (below Observer w)) (a ++ g) h in
    (block_none [] c.body (below Observer w) (first (points_of [] c.body (below Observer w)) (a ++ g) h), told_none c.assume (below Assume w) (first a g k), told_none c.enforce (below Enforce w) (second a g k))

-- ---- programs

abbrev CallNothing : List Item → Type 0
CallNothing [] = ⊤
CallNothing (TypeItem d ∷ items) = CallNothing items
CallNothing (NodeItem n ∷ items) = ContractCallsNothing n.contract × CallNothing items

all-none : (items : List Item) → ContractsCallNothing items → CallNothing items
all-none [] h = tt
all-none (TypeItem d ∷ items) h = all-none items h
all-none (NodeItem n ∷ items) h = (contract_none n.contract (λ p. p) h.0, all-none items h.1)

none-append : (xs ys : List Item) → CallNothing xs → CallNothing ys → CallNothing (xs ++ ys)
none-append [] ys h k = k
none-append (TypeItem d ∷ xs) ys h k = none-append xs ys h k
none-append (NodeItem n ∷ xs) ys h k = (h.0, none-append xs ys h.1 k)

none-reversed : (items : List Item) → CallNothing items → CallNothing (reverse items)
none-reversed [] h = tt
none-reversed (TypeItem d ∷ items) h = subst CallNothing (sym (reverse-append (TypeItem d ∷ []) items)) (none-append (reverse items) (TypeItem d ∷ []) (none-reversed items h) tt)
none-reversed (NodeItem n ∷ items) h = subst CallNothing (sym (reverse-append (NodeItem n ∷ []) items)) (none-append (reverse items) (NodeItem n ∷ []) (none-reversed items h.1) (h.0, tt))

among-none : (items : List Item) → CallNothing items → (f : List ℕ) (m : Node) → node_among items f ≡ Some m → ContractCallsNothing m.contract
among-none [] h f m q = absurd (none-some m q)
among-none (TypeItem d ∷ items) h f m q = among-none items h f m q
among-none (NodeItem n ∷ items) h f m q = by (bytes_eq n.name f) q (among-none items h.1 f m)
  where
    by : (b : Bool) → (if b then Some n else node_among items f) ≡ Some m → (node_among items f ≡ Some m → ContractCallsNothing m.contract) → ContractCallsNothing m.contract
    by true q more = subst (λ i. ContractCallsNothing i.contract) (same_Some n m q) h.0
    by false q more = more q

pub contracts-none : (program : List Item) → ContractsCallNothing program → (f : List ℕ) (m : Node) → node_among (reverse program) f ≡ Some m → ContractCallsNothing m.contract
contracts-none program h f m q = among-none (reverse program) (none-reversed program (all-none program h)) f m q
