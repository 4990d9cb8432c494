-- Inlined calls are places, but for those without a name.
use Rattle.std.proofs.Common.{◌≡◌, ◌≤◌, ℕ, suc, ◌+◌, true, false, length, List, [], ◌∷◌, Option, None, Some, refl, arith}
use Rattle.hp_base.specs.declared.span.Span.{Span}
use Rattle.hp_tree.specs.Expressions.{Expr, constant, variable, last_of, one, two, choose, pre, fby, arrow, when_is, merge, call, Exprs, no_expr, more_exprs, Parts, no_part, more_parts}
use Rattle.hp_tree.specs.Blocks.{Block, block, Eqns, no_eqn, more_eqns, Eqn, define, switch, reset, automaton, Arms, no_arm, more_arms, States, no_state, more_states}
use Rattle.hp_tree.specs.Programs.{Contract, Node}
use Rattle.hp_expand.specs.Replacing as new
use Rattle.hp_expand.specs.Sizes.{Size, places, join, deeper, of_call, in_expr, in_exprs, in_parts, in_right, in_transitions, in_condition, in_block, in_eqns, in_eqn, in_arms, in_states, in_contract}
use Rattle.hp_expand.specs.CallNumbers.{nameless, nameless_in, nameless_of, nameless_in_arms, nameless_in_states, nameless_in_contract, CallsWithinPlaces}
use Rattle.hp_expand.proofs.NewNumberLaws.{joined, inner}

-- a call that gives the values of some names, over such arguments
call_places : (n : ℕ) (inside args : Size) → (of_call n true inside args).places ≡ n + (inside.places + args.places)
unfolding of_call join places
call_places n inside args = refl

plain_places : (n : ℕ) (inside args : Size) → args.places ≤ (of_call n false inside args).places
unfolding of_call join places
plain_places n inside args = omega arith

module _ (known : List ℕ → Size) (nodes : List ℕ → Node) where
  mutual
    expr_calls : (k : ℕ) (e : Expr) → (new.in_expr nodes k e).next ≤ k + (in_expr known e).places
    expr_calls k (constant at c) = omega arith
    expr_calls k (variable at x) = omega arith
    expr_calls k (last_of at x) = omega arith
    expr_calls k (one at op a) = omega (arith, joined (places 1) (in_expr known a), expr_calls k a)
    expr_calls k (two at op a b) =
        omega (arith, joined (places 1) (join (in_expr known a) (in_expr known b)), joined (in_expr known a) (in_expr known b), expr_calls k a, expr_calls (new.in_expr nodes k a).next b)
    expr_calls k (choose at a b c) =
        let rest = join (in_expr known b) (in_expr known c) in
        omega (
          arith,
          joined (places 1) (join (in_expr known a) rest),
          joined (in_expr known a) rest,
          joined (in_expr known b) (in_expr known c),
          expr_calls k a,
          expr_calls (new.in_expr nodes k a).next b,
          expr_calls (new.in_expr nodes (new.in_expr nodes k a).next b).next c,
        )
    expr_calls k (pre at a) = omega (arith, joined (places 1) (in_expr known a), expr_calls k a)
    expr_calls k (fby at a b) =
        omega (arith, joined (places 1) (join (in_expr known a) (in_expr known b)), joined (in_expr known a) (in_expr known b), expr_calls k a, expr_calls (new.in_expr nodes k a).next b)
    expr_calls k (arrow at a b) =
        omega (arith, joined (places 1) (join (in_expr known a) (in_expr known b)), joined (in_expr known a) (in_expr known b), expr_calls k a, expr_calls (new.in_expr nodes k a).next b)
    expr_calls k (when_is at a c x) = omega (arith, joined (places 1) (in_expr known a), expr_calls k a)
    expr_calls k (merge at x ps) = omega (arith, joined (places 1) (in_parts known ps), parts_calls k ps)
    expr_calls k (call at f true es) = omega (arith, call_places 1 (known f) (in_exprs known es), exprs_calls k es)
    expr_calls k (call at f false es) = omega (arith, plain_places 1 (known f) (in_exprs known es), exprs_calls k es)

    exprs_calls : (k : ℕ) (es : Exprs) → (new.in_exprs nodes k es).next ≤ k + (in_exprs known es).places
    exprs_calls k no_expr = omega arith
    exprs_calls k (more_exprs e es) = omega (arith, joined (in_expr known e) (in_exprs known es), expr_calls k e, exprs_calls (new.in_expr nodes k e).next es)

    parts_calls : (k : ℕ) (ps : Parts) → (new.in_parts nodes k ps).next ≤ k + (in_parts known ps).places
    parts_calls k no_part = omega arith
    parts_calls k (more_parts c e ps) = omega (arith, joined (in_expr known e) (in_parts known ps), expr_calls k e, parts_calls (new.in_expr nodes k e).next ps)

  right_calls : (k : ℕ) (s : Span) (x : List ℕ × Span) (xs : List (List ℕ × Span)) (e : Expr) → (new.in_definition nodes k s (x ∷ xs) e).next ≤ k + (in_right known (suc (length xs)) e).places
  right_calls k s x xs (constant at c) = expr_calls k (constant at c)
  right_calls k s x xs (variable at y) = expr_calls k (variable at y)
  right_calls k s x xs (last_of at y) = expr_calls k (last_of at y)
  right_calls k s x xs (one at op a) = expr_calls k (one at op a)
  right_calls k s x xs (two at op a b) = expr_calls k (two at op a b)
  right_calls k s x xs (choose at a b c) = expr_calls k (choose at a b c)
  right_calls k s x xs (pre at a) = expr_calls k (pre at a)
  right_calls k s x xs (fby at a b) = expr_calls k (fby at a b)
  right_calls k s x xs (arrow at a b) = expr_calls k (arrow at a b)
  right_calls k s x xs (when_is at a c y) = expr_calls k (when_is at a c y)
  right_calls k s x xs (merge at y ps) = expr_calls k (merge at y ps)
  right_calls k s x xs (call at f true es) = omega (arith, call_places (suc (length xs)) (known f) (in_exprs known es), exprs_calls k es)
  right_calls k s x xs (call at f false es) = omega (arith, plain_places (suc (length xs)) (known f) (in_exprs known es), exprs_calls k es)

  nameless_calls : (k : ℕ) (s : Span) (e : Expr) → (new.in_definition nodes k s [] e).next ≤ k + ((in_right known 0 e).places + 1)
  nameless_calls k s (constant at c) = omega (arith, expr_calls k (constant at c))
  nameless_calls k s (variable at y) = omega (arith, expr_calls k (variable at y))
  nameless_calls k s (last_of at y) = omega (arith, expr_calls k (last_of at y))
  nameless_calls k s (one at op a) = omega (arith, expr_calls k (one at op a))
  nameless_calls k s (two at op a b) = omega (arith, expr_calls k (two at op a b))
  nameless_calls k s (choose at a b c) = omega (arith, expr_calls k (choose at a b c))
  nameless_calls k s (pre at a) = omega (arith, expr_calls k (pre at a))
  nameless_calls k s (fby at a b) = omega (arith, expr_calls k (fby at a b))
  nameless_calls k s (arrow at a b) = omega (arith, expr_calls k (arrow at a b))
  nameless_calls k s (when_is at a c y) = omega (arith, expr_calls k (when_is at a c y))
  nameless_calls k s (merge at y ps) = omega (arith, expr_calls k (merge at y ps))
  nameless_calls k s (call at f true es) = omega (arith, call_places 0 (known f) (in_exprs known es), exprs_calls k es)
  nameless_calls k s (call at f false es) = omega (arith, plain_places 0 (known f) (in_exprs known es), exprs_calls k es)

  mutual
    block_calls : (k : ℕ) (b : Block) → (new.in_block nodes k b).next ≤ k + ((in_block known b).places + nameless b)
    block_calls k (block ds es) = omega (arith, joined (places (length ds)) (in_eqns known es), eqns_calls k es)

    eqns_calls : (k : ℕ) (es : Eqns) → (new.in_eqns nodes k es).next ≤ k + ((in_eqns known es).places + nameless_in es)
    eqns_calls k no_eqn = omega arith
    eqns_calls k (more_eqns e es) = omega (arith, joined (in_eqn known e) (in_eqns known es), eqn_calls k e, eqns_calls (new.in_eqn nodes k e).next es)

    eqn_calls : (k : ℕ) (e : Eqn) → (new.in_eqn nodes k e).next ≤ k + ((in_eqn known e).places + nameless_of e)
    eqn_calls k (define s [] e) = nameless_calls k s e
    eqn_calls k (define s (x ∷ xs) e) = omega (arith, right_calls k s x xs e)
    eqn_calls k (switch s e arms) = omega (arith, joined (in_expr known e) (in_arms known arms), expr_calls k e, arms_calls (new.in_expr nodes k e).next arms)
    eqn_calls k (reset s b e) = omega (arith, joined (deeper (in_block known b)) (in_expr known e), inner (in_block known b), expr_calls k e, block_calls (new.in_expr nodes k e).next b)
    eqn_calls k (automaton s qs) = omega (arith, joined (places 4) (in_states known qs), states_calls k qs)

    arms_calls : (k : ℕ) (arms : Arms) → (new.in_arms nodes k arms).next ≤ k + ((in_arms known arms).places + nameless_in_arms arms)
    arms_calls k no_arm = omega arith
    arms_calls k (more_arms c b at arms) =
        omega (arith, joined (deeper (in_block known b)) (in_arms known arms), inner (in_block known b), block_calls k b, arms_calls (new.in_block nodes k b).next arms)

    states_calls : (k : ℕ) (qs : States) → (new.in_states nodes k qs).next ≤ k + ((in_states known qs).places + nameless_in_states qs)
    states_calls k no_state = omega arith
    states_calls k (more_states x b until unless at qs) =
        let t = join (in_transitions known until) (in_transitions known unless) in
        omega (arith, joined (join (deeper (in_block known b)) t) (in_states known qs), joined (deeper (in_block known b)) t, inner (in_block known b), block_calls k b, states_calls (new.in_block nodes k b).next qs)

  condition_calls : (k : ℕ) (o : Option Expr) → (new.in_condition nodes k o).next ≤ k + (in_condition known o).places
  condition_calls k None = omega arith
  condition_calls k (Some e) = expr_calls k e

  equations_calls : (k : ℕ) (b : Block) → (new.in_eqns nodes k (new.equations_of b)).next ≤ k + ((in_block known b).places + nameless b)
  equations_calls k (block ds es) = omega (arith, joined (places (length ds)) (in_eqns known es), eqns_calls k es)

  contract_calls : (k : ℕ) (c : Option Contract) → (new.in_contract nodes k c).next ≤ k + ((in_contract known c).places + nameless_in_contract c)
  contract_calls k None = omega arith
  contract_calls k (Some c) =
      let es = new.in_eqns nodes k (new.equations_of c.body) in
      let assume = new.in_condition nodes es.next c.assume in
      let conditions = join (in_condition known c.assume) (in_condition known c.enforce) in
      omega (
        arith,
        joined (places (length c.controls)) (join (in_block known c.body) conditions),
        joined (in_block known c.body) conditions,
        joined (in_condition known c.assume) (in_condition known c.enforce),
        equations_calls k c.body,
        condition_calls es.next c.assume,
        condition_calls assume.next c.enforce,
      )

pub calls_law : CallsWithinPlaces
calls_law known nodes n =
    let ends = join (places (length n.inputs)) (places (length n.outputs)) in
    omega (
      arith,
      joined ends (join (in_contract known n.contract) (in_block known n.body)),
      joined (in_contract known n.contract) (in_block known n.body),
      contract_calls known nodes 1 n.contract,
      block_calls known nodes (new.in_contract nodes 1 n.contract).next n.body,
    )
