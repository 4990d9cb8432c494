-- Other names of variables, and the numbers of new ones, leave calls as they are.
use Rattle.std.proofs.Common.{◌≡◌, ℕ, ◌+◌, List, [], ◌∷◌, map, refl, ap, ap₂}
use Rattle.hp_tree.specs.declared.block.Trans.{Trans}
use Rattle.hp_tree.specs.Expressions.{Expr, constant, variable, last_of, one, two, choose, pre, fby, arrow, when_is, merge, call, Exprs, no_expr, more_exprs, Parts, no_part, more_parts}
use Rattle.hp_tree.specs.Blocks.{Block, block, Eqns, no_eqn, more_eqns, Eqn, define, switch, reset, automaton, Arms, no_arm, more_arms, States, no_state, more_states}
use Rattle.hp_expand.specs.Renaming.{renamed, renamed_exprs, renamed_parts, renamed_transition, renamed_block, renamed_eqns, renamed_eqn, renamed_arms, renamed_states}
use Rattle.hp_expand.specs.Numbering as numbering
use Rattle.hp_expand.specs.Numbering.{declaring, new_in_decls, new_in_eqns, new_in_eqn, new_in_block}
use Rattle.law_history.specs.Counted.Counted.{in_expr, in_exprs, in_parts, in_transitions, in_block, in_eqns, in_eqn, in_arms, in_states}

module _ (join : ℕ → ℕ → ℕ) (known : List ℕ → ℕ) where
  -- ---- other names

  mutual
    expr_renamed : (to : List ℕ → List ℕ) (e : Expr) → in_expr join known (renamed to e) ≡ in_expr join known e
    expr_renamed to (constant s c) = refl
    expr_renamed to (variable s x) = refl
    expr_renamed to (last_of s x) = refl
    expr_renamed to (one s o a) = expr_renamed to a
    expr_renamed to (two s o a b) = ap₂ join (expr_renamed to a) (expr_renamed to b)
    expr_renamed to (choose s a b c) = ap₂ join (expr_renamed to a) (ap₂ join (expr_renamed to b) (expr_renamed to c))
    expr_renamed to (pre s a) = expr_renamed to a
    expr_renamed to (fby s a b) = ap₂ join (expr_renamed to a) (expr_renamed to b)
    expr_renamed to (arrow s a b) = ap₂ join (expr_renamed to a) (expr_renamed to b)
    expr_renamed to (when_is s a c x) = expr_renamed to a
    expr_renamed to (merge s x ps) = parts_renamed to ps
    expr_renamed to (call s f inlined es) = ap (λ n. join n (known f)) (exprs_renamed to es)

    exprs_renamed : (to : List ℕ → List ℕ) (es : Exprs) → in_exprs join known (renamed_exprs to es) ≡ in_exprs join known es
    exprs_renamed to no_expr = refl
    exprs_renamed to (more_exprs e es) = ap₂ join (expr_renamed to e) (exprs_renamed to es)

    parts_renamed : (to : List ℕ → List ℕ) (ps : Parts) → in_parts join known (renamed_parts to ps) ≡ in_parts join known ps
    parts_renamed to no_part = refl
    parts_renamed to (more_parts c e ps) = ap₂ join (expr_renamed to e) (parts_renamed to ps)

  tests_renamed : (to : List ℕ → List ℕ) (ts : List Trans) → in_transitions join known (map (renamed_transition to) ts) ≡ in_transitions join known ts
  tests_renamed to [] = refl
  tests_renamed to (t ∷ ts) = ap₂ join (expr_renamed to t.cond) (tests_renamed to ts)

  mutual
    block_renamed : (to : List ℕ → List ℕ) (b : Block) → in_block join known (renamed_block to b) ≡ in_block join known b
    block_renamed to (block ds es) = eqns_renamed to es

    pub eqns_renamed : (to : List ℕ → List ℕ) (es : Eqns) → in_eqns join known (renamed_eqns to es) ≡ in_eqns join known es
    eqns_renamed to no_eqn = refl
    eqns_renamed to (more_eqns e es) = ap₂ join (eqn_renamed to e) (eqns_renamed to es)

    eqn_renamed : (to : List ℕ → List ℕ) (e : Eqn) → in_eqn join known (renamed_eqn to e) ≡ in_eqn join known e
    eqn_renamed to (define s ys e) = expr_renamed to e
    eqn_renamed to (switch s e arms) = ap₂ join (expr_renamed to e) (arms_renamed to arms)
    eqn_renamed to (reset s b e) = ap₂ join (expr_renamed to e) (block_renamed to b)
    eqn_renamed to (automaton s ss) = states_renamed to ss

    arms_renamed : (to : List ℕ → List ℕ) (arms : Arms) → in_arms join known (renamed_arms to arms) ≡ in_arms join known arms
    arms_renamed to no_arm = refl
    arms_renamed to (more_arms c b s arms) = ap₂ join (block_renamed to b) (arms_renamed to arms)

    states_renamed : (to : List ℕ → List ℕ) (ss : States) → in_states join known (renamed_states to ss) ≡ in_states join known ss
    states_renamed to no_state = refl
    states_renamed to (more_states f b until unless s ss) = ap₂ join (ap₂ join (tests_renamed to unless) (ap₂ join (tests_renamed to until) (block_renamed to b))) (states_renamed to ss)

  -- ---- numbers

  mutual
    pub block_numbered : (to : List ℕ → List ℕ) (k : ℕ) (b : Block) → in_block join known (numbering.in_block to k b) ≡ in_block join known b
    block_numbered to k (block ds es) = eqns_numbered (declaring to k ds) (k + new_in_decls ds) es

    eqns_numbered : (to : List ℕ → List ℕ) (k : ℕ) (es : Eqns) → in_eqns join known (numbering.in_eqns to k es) ≡ in_eqns join known es
    eqns_numbered to k no_eqn = refl
    eqns_numbered to k (more_eqns e es) = ap₂ join (eqn_numbered to k e) (eqns_numbered to (k + new_in_eqn e) es)

    eqn_numbered : (to : List ℕ → List ℕ) (k : ℕ) (e : Eqn) → in_eqn join known (numbering.in_eqn to k e) ≡ in_eqn join known e
    eqn_numbered to k (define s ys e) = expr_renamed to e
    eqn_numbered to k (switch s e arms) = ap₂ join (expr_renamed to e) (arms_numbered to k arms)
    eqn_numbered to k (reset s b e) = ap₂ join (expr_renamed to e) (block_numbered to k b)
    eqn_numbered to k (automaton s ss) = states_numbered to k ss

    arms_numbered : (to : List ℕ → List ℕ) (k : ℕ) (arms : Arms) → in_arms join known (numbering.in_arms to k arms) ≡ in_arms join known arms
    arms_numbered to k no_arm = refl
    arms_numbered to k (more_arms c b s arms) = ap₂ join (block_numbered to k b) (arms_numbered to (k + new_in_block b) arms)

    states_numbered : (to : List ℕ → List ℕ) (k : ℕ) (ss : States) → in_states join known (numbering.in_states to k ss) ≡ in_states join known ss
    states_numbered to k no_state = refl
    states_numbered to k (more_states f (block ds es) until unless s ss) =
        ap₂ join
        (ap₂ join (tests_renamed to unless) (ap₂ join (tests_renamed (declaring to k ds) until) (eqns_numbered (declaring to k ds) (k + new_in_decls ds) es)))
        (states_numbered to (k + (new_in_decls ds + new_in_eqns es)) ss)
