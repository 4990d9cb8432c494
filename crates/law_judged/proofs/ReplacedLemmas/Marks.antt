-- There are as many marks as inlined calls.
use Rattle.std.proofs.Common.{◌≡◌, ℕ, suc, ◌+◌, ◌<◌, true, false, List, [], ◌∷◌, arith}
use Rattle.std.specs.Prelude.{Option, None, Some}
use Rattle.hp_base.specs.declared.span.Span.{Span}
use Rattle.hp_tree.specs.declared.program.Item.{Item}
use Rattle.hp_tree.specs.declared.program.Item.TheVariants.{TypeItem, NodeItem}
use Rattle.hp_tree.specs.Expressions.{Expr, constant, variable, last_of, one, two, choose, pre, fby, arrow, when_is, merge, call, Exprs, no_expr, more_exprs, Parts, no_part, more_parts}
use Rattle.hp_tree.specs.Blocks.{Block, block, Eqns, no_eqn, more_eqns, Eqn, define, switch, reset, automaton, Arms, no_arm, more_arms, States, no_state, more_states}
use Rattle.hp_tree.specs.Programs.{Contract, Node}
use Rattle.hp_expand.specs.Replacing.{equations_of, in_expr, in_exprs, in_parts, in_definition, in_block, in_eqns, in_eqn, in_arms, in_states, in_condition, in_contract}
use Rattle.hp_expand.specs.Numbering.{replaced_node, with_node}
use Rattle.law_judged.specs.Named.Scoped.{EachNode}
use Rattle.law_judged.specs.Replaced.Inlined as count
use Rattle.law_judged.specs.Replaced.Laws.{FewCalls}
use Rattle.law_judged.specs.Replaced.Judged.{AllFewCalls}

after : (k m p a b : ℕ) → m ≡ k + a → p ≡ m + b → p ≡ k + (a + b)
after k m p a b e f = omega (arith, e, f)

none_more : (k : ℕ) → k ≡ k + 0
none_more k = omega arith

one_more : (k m a : ℕ) → m ≡ k + a → suc m ≡ k + suc a
one_more k m a e = omega (arith, e)

module _ (nodes : List ℕ → Node) where
  mutual
    expr_marks : (k : ℕ) (e : Expr) → (in_expr nodes k e).next ≡ k + count.in_expr e
    expr_marks k (constant at c) = none_more k
    expr_marks k (variable at x) = none_more k
    expr_marks k (last_of at x) = none_more k
    expr_marks k (one at op a) = expr_marks k a
    expr_marks k (two at op a b) =
        let m = (in_expr nodes k a).next in
        after k m (in_expr nodes m b).next (count.in_expr a) (count.in_expr b) (expr_marks k a) (expr_marks m b)
    expr_marks k (choose at a b c) =
        let m = (in_expr nodes k a).next in
        let p = (in_expr nodes m b).next in
        after k m (in_expr nodes p c).next (count.in_expr a) (count.in_expr b + count.in_expr c) (expr_marks k a)
        (after m p (in_expr nodes p c).next (count.in_expr b) (count.in_expr c) (expr_marks m b) (expr_marks p c))
    expr_marks k (pre at a) = expr_marks k a
    expr_marks k (fby at a b) =
        let m = (in_expr nodes k a).next in
        after k m (in_expr nodes m b).next (count.in_expr a) (count.in_expr b) (expr_marks k a) (expr_marks m b)
    expr_marks k (arrow at a b) =
        let m = (in_expr nodes k a).next in
        after k m (in_expr nodes m b).next (count.in_expr a) (count.in_expr b) (expr_marks k a) (expr_marks m b)
    expr_marks k (when_is at a c x) = expr_marks k a
    expr_marks k (merge at x ps) = parts_marks k ps
    expr_marks k (call at f false es) = exprs_marks k es
    expr_marks k (call at f true es) = one_more k (in_exprs nodes k es).next (count.in_exprs es) (exprs_marks k es)

    exprs_marks : (k : ℕ) (es : Exprs) → (in_exprs nodes k es).next ≡ k + count.in_exprs es
    exprs_marks k no_expr = none_more k
    exprs_marks k (more_exprs e es) =
        let m = (in_expr nodes k e).next in
        after k m (in_exprs nodes m es).next (count.in_expr e) (count.in_exprs es) (expr_marks k e) (exprs_marks m es)

    parts_marks : (k : ℕ) (ps : Parts) → (in_parts nodes k ps).next ≡ k + count.in_parts ps
    parts_marks k no_part = none_more k
    parts_marks k (more_parts c e ps) =
        let m = (in_expr nodes k e).next in
        after k m (in_parts nodes m ps).next (count.in_expr e) (count.in_parts ps) (expr_marks k e) (parts_marks m ps)

  definition_marks : (k : ℕ) (s : Span) (ys : List (List ℕ × Span)) (e : Expr) → (in_definition nodes k s ys e).next ≡ k + count.in_expr e
  definition_marks k s ys (call at f true es) = one_more k (in_exprs nodes k es).next (count.in_exprs es) (exprs_marks k es)
  definition_marks k s ys e = expr_marks k e

  mutual
    block_marks : (k : ℕ) (b : Block) → (in_block nodes k b).next ≡ k + count.in_block b
    block_marks k (block ds es) = eqns_marks k es

    eqns_marks : (k : ℕ) (es : Eqns) → (in_eqns nodes k es).next ≡ k + count.in_eqns es
    eqns_marks k no_eqn = none_more k
    eqns_marks k (more_eqns e es) =
        let m = (in_eqn nodes k e).next in
        after k m (in_eqns nodes m es).next (count.in_eqn e) (count.in_eqns es) (eqn_marks k e) (eqns_marks m es)

    eqn_marks : (k : ℕ) (e : Eqn) → (in_eqn nodes k e).next ≡ k + count.in_eqn e
    eqn_marks k (define s ys e) = definition_marks k s ys e
    eqn_marks k (switch s e arms) =
        let m = (in_expr nodes k e).next in
        after k m (in_arms nodes m arms).next (count.in_expr e) (count.in_arms arms) (expr_marks k e) (arms_marks m arms)
    eqn_marks k (reset s b e) =
        let m = (in_expr nodes k e).next in
        after k m (in_block nodes m b).next (count.in_expr e) (count.in_block b) (expr_marks k e) (block_marks m b)
    eqn_marks k (automaton s ss) = states_marks k ss

    arms_marks : (k : ℕ) (arms : Arms) → (in_arms nodes k arms).next ≡ k + count.in_arms arms
    arms_marks k no_arm = none_more k
    arms_marks k (more_arms c b s arms) =
        let m = (in_block nodes k b).next in
        after k m (in_arms nodes m arms).next (count.in_block b) (count.in_arms arms) (block_marks k b) (arms_marks m arms)

    states_marks : (k : ℕ) (ss : States) → (in_states nodes k ss).next ≡ k + count.in_states ss
    states_marks k no_state = none_more k
    states_marks k (more_states f b until unless s ss) =
        let m = (in_block nodes k b).next in
        after k m (in_states nodes m ss).next (count.in_block b) (count.in_states ss) (block_marks k b) (states_marks m ss)

  condition_marks : (k : ℕ) (e : Option Expr) → (in_condition nodes k e).next ≡ k + count.in_condition e
  condition_marks k None = none_more k
  condition_marks k (Some e) = expr_marks k e

  observer_marks : (k : ℕ) (b : Block) → (in_eqns nodes k (equations_of b)).next ≡ k + count.in_block b
  observer_marks k (block ds es) = eqns_marks k es

  contract_marks : (k : ℕ) (c : Option Contract) → (in_contract nodes k c).next ≡ k + count.in_contract c
  contract_marks k None = none_more k
  contract_marks k (Some c) =
      let m = (in_eqns nodes k (equations_of c.body)).next in
      let p = (in_condition nodes m c.assume).next in
      after k m (in_condition nodes p c.enforce).next (count.in_block c.body) (count.in_condition c.assume + count.in_condition c.enforce) (observer_marks k c.body)
      (after m p (in_condition nodes p c.enforce).next (count.in_condition c.assume) (count.in_condition c.enforce) (condition_marks m c.assume) (condition_marks p c.enforce))

  pub few_calls : (n : Node) → count.in_node n < 1000000 → FewCalls nodes n
  few_calls n h =
      let k = (in_contract nodes 1 n.contract).next in
      let a : k ≡ 1 + count.in_contract n.contract = contract_marks 1 n.contract in
      let b : (in_block nodes k n.body).next ≡ k + count.in_block n.body = block_marks k n.body in
      omega (arith, a, b, h)

pub all_few_calls : (nodes : List ℕ → Node) (items : List Item) → EachNode (λ n. count.in_node n < 1000000) items → AllFewCalls nodes items
all_few_calls nodes [] h = tt
all_few_calls nodes (TypeItem t ∷ items) h = all_few_calls nodes items h
all_few_calls nodes (NodeItem n ∷ items) h = (few_calls nodes n h.0, all_few_calls (with_node nodes (replaced_node nodes n)) items h.1)
