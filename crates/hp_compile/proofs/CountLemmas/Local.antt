-- What is counted of a part depends on the nodes alone that are in scope there.
use Rattle.std.proofs.Common.{◌≡◌, ℕ, length, List, [], ◌∷◌, Contains, Option, None, Some, refl, subst, ◌∙◌}
use Rattle.hp_base.specs.declared.ty.Const.{Const}
use Rattle.hp_tree.specs.declared.block.Trans.{Trans}
use Rattle.hp_tree.specs.Expressions.{Expr, constant, variable, last_of, one, two, choose, pre, fby, arrow, when_is, merge, call, Exprs, no_expr, more_exprs, Parts, no_part, more_parts}
use Rattle.hp_tree.specs.Blocks.{Decl, Block, block, Eqns, no_eqn, more_eqns, Eqn, define, switch, reset, automaton, Arms, no_arm, more_arms, States, no_state, more_states}
use Rattle.hp_tree.specs.Programs.{Contract, Node}
use Rattle.hp_tree.specs.Meaning.{controls_of}
use Rattle.hp_names.specs.Scopes.{with_variable, with_variables, inside, inside_node}
use Rattle.hp_names.specs.Rules.{ExprIsNamed, ExprsAreNamed, PartsAreNamed, TransitionsAreNamed, BlockIsNamed, EqnsAreNamed, EqnIsNamed, ArmsAreNamed, StatesAreNamed, ConditionIsNamed, ContractIsNamed, NodeIsNamed}
use Rattle.law_judged.specs.Named.Scopes.{NameScope}
use Rattle.hp_expand.specs.Sizes.{places, join, deeper, of_call, in_expr, in_exprs, in_parts, in_right, in_transitions, in_block, in_eqns, in_eqn, in_arms, in_states, in_condition, in_contract, in_node}
use Rattle.hp_compile.proofs.CountLemmas.Types.{Size}

-- variables bring no nodes
variable_kept : (s : NameScope) (d : Decl) (first : Option Const) → (with_variable s d first).nodes ≡ s.nodes
variable_kept s d None = refl
variable_kept s d (Some c) = refl

variables_kept : (s : NameScope) (ds : List Decl) → (with_variables s ds).nodes ≡ s.nodes
variables_kept s [] = refl
variables_kept s (d ∷ ds) = variables_kept (with_variable s d d.last) ds ∙ variable_kept s d d.last

inside_kept : (s : NameScope) (b : Block) → (inside s b).nodes ≡ s.nodes
inside_kept s (block ds es) = variables_kept s ds

module _ (known other : List ℕ → Size) (names : List (List ℕ)) (same : (f : List ℕ) → Contains names f → known f ≡ other f) where
  same_in : (s : NameScope) (f : List ℕ) → s.nodes ≡ names → Contains s.nodes f → known f ≡ other f
  same_in s f k h = same f (subst (λ z. Contains z f) k h)

  mutual
    expr_local : (s : NameScope) (e : Expr) → s.nodes ≡ names → ExprIsNamed s e → in_expr known e ≡ in_expr other e
    expr_local s (constant at c) k h = refl
    expr_local s (variable at x) k h = refl
    expr_local s (last_of at x) k h = refl
    expr_local s (one at op a) k h = λ i. join (places 1) (expr_local s a k h i)
    expr_local s (two at op a b) k h = λ i. join (places 1) (join (expr_local s a k h.0 i) (expr_local s b k h.1 i))
    expr_local s (choose at a b c) k h = λ i. join (places 1) (join (expr_local s a k h.0 i) (join (expr_local s b k h.1.0 i) (expr_local s c k h.1.1 i)))
    expr_local s (pre at a) k h = λ i. join (places 1) (expr_local s a k h i)
    expr_local s (fby at a b) k h = λ i. join (places 1) (join (expr_local s a k h.0 i) (expr_local s b k h.1 i))
    expr_local s (arrow at a b) k h = λ i. join (places 1) (join (expr_local s a k h.0 i) (expr_local s b k h.1 i))
    expr_local s (when_is at a c x) k h = λ i. join (places 1) (expr_local s a k h.0 i)
    expr_local s (merge at x ps) k h = λ i. join (places 1) (parts_local s ps k h.1 i)
    expr_local s (call at f inlined es) k h = λ i. of_call 1 inlined (same_in s f k h.0 i) (exprs_local s es k h.1 i)

    exprs_local : (s : NameScope) (es : Exprs) → s.nodes ≡ names → ExprsAreNamed s es → in_exprs known es ≡ in_exprs other es
    exprs_local s no_expr k h = refl
    exprs_local s (more_exprs e es) k h = λ i. join (expr_local s e k h.0 i) (exprs_local s es k h.1 i)

    parts_local : (s : NameScope) (ps : Parts) → s.nodes ≡ names → PartsAreNamed s ps → in_parts known ps ≡ in_parts other ps
    parts_local s no_part k h = refl
    parts_local s (more_parts c e ps) k h = λ i. join (expr_local s e k h.1.0 i) (parts_local s ps k h.1.1 i)

  right_local : (s : NameScope) (n : ℕ) (e : Expr) → s.nodes ≡ names → ExprIsNamed s e → in_right known n e ≡ in_right other n e
  right_local s n (constant at c) k h = refl
  right_local s n (variable at x) k h = refl
  right_local s n (last_of at x) k h = refl
  right_local s n (one at op a) k h = expr_local s (one at op a) k h
  right_local s n (two at op a b) k h = expr_local s (two at op a b) k h
  right_local s n (choose at a b c) k h = expr_local s (choose at a b c) k h
  right_local s n (pre at a) k h = expr_local s (pre at a) k h
  right_local s n (fby at a b) k h = expr_local s (fby at a b) k h
  right_local s n (arrow at a b) k h = expr_local s (arrow at a b) k h
  right_local s n (when_is at a c x) k h = expr_local s (when_is at a c x) k h
  right_local s n (merge at x ps) k h = expr_local s (merge at x ps) k h
  right_local s n (call at f inlined es) k h = λ i. of_call n inlined (same_in s f k h.0 i) (exprs_local s es k h.1 i)

  transitions_local : (s : NameScope) (states : List (List ℕ)) (ts : List Trans) → s.nodes ≡ names → TransitionsAreNamed s states ts → in_transitions known ts ≡ in_transitions other ts
  transitions_local s states [] k h = refl
  transitions_local s states (t ∷ ts) k h = λ i. join (expr_local s t.cond k h.0 i) (transitions_local s states ts k h.1.1 i)

  mutual
    block_local : (s : NameScope) (b : Block) → s.nodes ≡ names → BlockIsNamed s b → in_block known b ≡ in_block other b
    block_local s (block ds es) k h = λ i. join (places (length ds)) (eqns_local (with_variables s ds) es (variables_kept s ds ∙ k) h.1 i)

    eqns_local : (s : NameScope) (es : Eqns) → s.nodes ≡ names → EqnsAreNamed s es → in_eqns known es ≡ in_eqns other es
    eqns_local s no_eqn k h = refl
    eqns_local s (more_eqns e es) k h = λ i. join (eqn_local s e k h.0 i) (eqns_local s es k h.1 i)

    eqn_local : (s : NameScope) (e : Eqn) → s.nodes ≡ names → EqnIsNamed s e → in_eqn known e ≡ in_eqn other e
    eqn_local s (define at xs e) k h = right_local s (length xs) e k h.1
    eqn_local s (switch at e arms) k h = λ i. join (expr_local s e k h.0 i) (arms_local s arms k h.1 i)
    eqn_local s (reset at b e) k h = λ i. join (deeper (block_local s b k h.0 i)) (expr_local s e k h.1 i)
    eqn_local s (automaton at qs) k h = λ i. join (places 4) (states_local s _ qs k h.1 i)

    arms_local : (s : NameScope) (arms : Arms) → s.nodes ≡ names → ArmsAreNamed s arms → in_arms known arms ≡ in_arms other arms
    arms_local s no_arm k h = refl
    arms_local s (more_arms c b at arms) k h = λ i. join (deeper (block_local s b k h.1.0 i)) (arms_local s arms k h.1.1 i)

    states_local : (s : NameScope) (states : List (List ℕ)) (qs : States) → s.nodes ≡ names → StatesAreNamed s states qs → in_states known qs ≡ in_states other qs
    states_local s states no_state k h = refl
    states_local s states (more_states x b until unless at qs) k h =
        λ i. join
        (join (deeper (block_local s b k h.0 i))
        (join (transitions_local (inside s b) states until (inside_kept s b ∙ k) h.1.0 i) (transitions_local s states unless k h.1.1.0 i)))
        (states_local s states qs k h.1.1.1 i)

  condition_local : (s : NameScope) (e : Option Expr) → s.nodes ≡ names → ConditionIsNamed s e → in_condition known e ≡ in_condition other e
  condition_local s None k h = refl
  condition_local s (Some e) k h = expr_local s e k h

  contract_local : (s : NameScope) (c : Option Contract) → s.nodes ≡ names → ContractIsNamed s c → in_contract known c ≡ in_contract other c
  contract_local s None k h = refl
  contract_local s (Some c) k h =
      let i = inside_kept s c.body ∙ k in
      λ j. join (places (length c.controls)) (join (block_local s c.body k h.0 j) (join (condition_local (inside s c.body) c.assume i h.1.0 j) (condition_local (inside s c.body) c.enforce i h.1.1 j)))

  pub node_local : (s : NameScope) (n : Node) → s.nodes ≡ names → NodeIsNamed s n → in_node known n ≡ in_node other n
  node_local s n k h =
      let here : (inside_node s n).nodes ≡ names = variables_kept (with_variables s n.inputs) n.outputs ∙ variables_kept s n.inputs ∙ k in
      λ i. join (join (places (length n.inputs)) (places (length n.outputs)))
      (join (contract_local (inside_node s n) n.contract here h.1.1.1.1.0 i)
      (block_local (with_variables (inside_node s n) (controls_of n.contract)) n.body (variables_kept (inside_node s n) (controls_of n.contract) ∙ here) h.1.1.1.1.1.1 i))
