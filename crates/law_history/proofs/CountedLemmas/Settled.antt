-- What is counted of a node depends on the nodes that are known in it alone, so nodes behind it do not change it.
use Rattle.std.proofs.Common.{◌≡◌, ℕ, length, List, [], ◌∷◌, Option, None, Some, refl, ap, ap₂, subst, ◌∙◌}
use Rattle.std.specs.Prelude.{Contains}
use Rattle.hp_base.specs.declared.ty.Const.{Const}
use Rattle.hp_tree.specs.declared.block.Trans.{Trans}
use Rattle.hp_tree.specs.Expressions.{Expr, constant, variable, last_of, one, two, choose, pre, fby, arrow, when_is, merge, call, Exprs, no_expr, more_exprs, Parts, no_part, more_parts}
use Rattle.hp_tree.specs.Blocks.{Decl, Block, block, Eqns, no_eqn, more_eqns, Eqn, define, switch, reset, automaton, Arms, no_arm, more_arms, States, no_state, more_states}
use Rattle.hp_tree.specs.Programs.{Node}
use Rattle.hp_tree.specs.Meaning.{controls_of}
use Rattle.hp_names.specs.Scopes.{nothing, with_variable, with_variables, inside, inside_node}
use Rattle.hp_names.specs.Rules.{ExprIsNamed, ExprsAreNamed, PartsAreNamed, TransitionsAreNamed, BlockIsNamed, EqnsAreNamed, EqnIsNamed, ArmsAreNamed, StatesAreNamed, NodeIsNamed}
use Rattle.hp_expand.specs.Sizes.{places, join, deeper, of_call, in_expr, in_exprs, in_parts, in_right, in_transitions, in_block, in_eqns, in_eqn, in_arms, in_states}
use Rattle.law_history.proofs.CountedLemmas.Replaced.{TypeOf, Size}

-- what is known at a place: its crate keeps the name of this type to itself
abbrev pub Scope : Type 0
Scope = TypeOf nothing

-- variables leave the nodes that are known as they are
variable_nodes : (s : Scope) (d : Decl) (first : Option Const) → (with_variable s d first).nodes ≡ s.nodes
variable_nodes s d None = refl
variable_nodes s d (Some c) = refl

pub nodes_kept : (s : Scope) (ds : List Decl) → (with_variables s ds).nodes ≡ s.nodes
nodes_kept s [] = refl
nodes_kept s (d ∷ ds) = nodes_kept (with_variable s d d.last) ds ∙ variable_nodes s d d.last

inside_nodes : (s : Scope) (b : Block) → (inside s b).nodes ≡ s.nodes
inside_nodes s (block ds es) = nodes_kept s ds

module _ (known other : List ℕ → Size) (names : List (List ℕ)) (agree : (f : List ℕ) → Contains names f → known f ≡ other f) where
  agreed : (s : Scope) (f : List ℕ) → s.nodes ≡ names → Contains s.nodes f → known f ≡ other f
  agreed s f e h = agree f (subst (λ (xs : List (List ℕ)). Contains xs f) e h)

  mutual
    expr_same : (e : Expr) (s : Scope) → s.nodes ≡ names → ExprIsNamed s e → in_expr known e ≡ in_expr other e
    expr_same (constant at c) s n h = refl
    expr_same (variable at x) s n h = refl
    expr_same (last_of at x) s n h = refl
    expr_same (one at o a) s n h = ap (join (places 1)) (expr_same a s n h)
    expr_same (two at o a b) s n h = ap (join (places 1)) (ap₂ join (expr_same a s n h.0) (expr_same b s n h.1))
    expr_same (choose at a b c) s n h = ap (join (places 1)) (ap₂ join (expr_same a s n h.0) (ap₂ join (expr_same b s n h.1.0) (expr_same c s n h.1.1)))
    expr_same (pre at a) s n h = ap (join (places 1)) (expr_same a s n h)
    expr_same (fby at a b) s n h = ap (join (places 1)) (ap₂ join (expr_same a s n h.0) (expr_same b s n h.1))
    expr_same (arrow at a b) s n h = ap (join (places 1)) (ap₂ join (expr_same a s n h.0) (expr_same b s n h.1))
    expr_same (when_is at a c x) s n h = ap (join (places 1)) (expr_same a s n h.0)
    expr_same (merge at x ps) s n h = ap (join (places 1)) (parts_same ps s n h.1)
    expr_same (call at f inlined es) s n h = ap₂ (of_call 1 inlined) (agreed s f n h.0) (exprs_same es s n h.1)

    exprs_same : (es : Exprs) (s : Scope) → s.nodes ≡ names → ExprsAreNamed s es → in_exprs known es ≡ in_exprs other es
    exprs_same no_expr s n h = refl
    exprs_same (more_exprs e es) s n h = ap₂ join (expr_same e s n h.0) (exprs_same es s n h.1)

    parts_same : (ps : Parts) (s : Scope) → s.nodes ≡ names → PartsAreNamed s ps → in_parts known ps ≡ in_parts other ps
    parts_same no_part s n h = refl
    parts_same (more_parts c e ps) s n h = ap₂ join (expr_same e s n h.1.0) (parts_same ps s n h.1.1)

  right_same : (e : Expr) (count : ℕ) (s : Scope) → s.nodes ≡ names → ExprIsNamed s e → in_right known count e ≡ in_right other count e
  right_same (constant at c) count s n h = refl
  right_same (variable at x) count s n h = refl
  right_same (last_of at x) count s n h = refl
  right_same (one at o a) count s n h = expr_same (one at o a) s n h
  right_same (two at o a b) count s n h = expr_same (two at o a b) s n h
  right_same (choose at a b c) count s n h = expr_same (choose at a b c) s n h
  right_same (pre at a) count s n h = expr_same (pre at a) s n h
  right_same (fby at a b) count s n h = expr_same (fby at a b) s n h
  right_same (arrow at a b) count s n h = expr_same (arrow at a b) s n h
  right_same (when_is at a c x) count s n h = expr_same (when_is at a c x) s n h
  right_same (merge at x ps) count s n h = expr_same (merge at x ps) s n h
  right_same (call at f inlined es) count s n h = ap₂ (of_call count inlined) (agreed s f n h.0) (exprs_same es s n h.1)

  tests_same : (ts : List Trans) (s : Scope) (states : List (List ℕ)) → s.nodes ≡ names → TransitionsAreNamed s states ts → in_transitions known ts ≡ in_transitions other ts
  tests_same [] s states n h = refl
  tests_same (t ∷ ts) s states n h = ap₂ join (expr_same t.cond s n h.0) (tests_same ts s states n h.1.1)

  mutual
    pub block_same : (b : Block) (s : Scope) → s.nodes ≡ names → BlockIsNamed s b → in_block known b ≡ in_block other b
    block_same (block ds es) s n h = ap (join (places (length ds))) (eqns_same es (with_variables s ds) (nodes_kept s ds ∙ n) h.1)

    eqns_same : (es : Eqns) (s : Scope) → s.nodes ≡ names → EqnsAreNamed s es → in_eqns known es ≡ in_eqns other es
    eqns_same no_eqn s n h = refl
    eqns_same (more_eqns e es) s n h = ap₂ join (eqn_same e s n h.0) (eqns_same es s n h.1)

    eqn_same : (e : Eqn) (s : Scope) → s.nodes ≡ names → EqnIsNamed s e → in_eqn known e ≡ in_eqn other e
    eqn_same (define at xs e) s n h = right_same e (length xs) s n h.1
    eqn_same (switch at e arms) s n h = ap₂ join (expr_same e s n h.0) (arms_same arms s n h.1)
    eqn_same (reset at b e) s n h = ap₂ join (ap deeper (block_same b s n h.0)) (expr_same e s n h.1)
    eqn_same (automaton at ss) s n h = ap (join (places 4)) (states_same ss s _ n h.1)

    arms_same : (arms : Arms) (s : Scope) → s.nodes ≡ names → ArmsAreNamed s arms → in_arms known arms ≡ in_arms other arms
    arms_same no_arm s n h = refl
    arms_same (more_arms c b at arms) s n h = ap₂ join (ap deeper (block_same b s n h.1.0)) (arms_same arms s n h.1.1)

    states_same : (ss : States) (s : Scope) (states : List (List ℕ)) → s.nodes ≡ names → StatesAreNamed s states ss → in_states known ss ≡ in_states other ss
    states_same no_state s states n h = refl
    states_same (more_states x b until unless at ss) s states n h =
        ap₂ join
        (ap₂ join (ap deeper (block_same b s n h.0)) (ap₂ join (tests_same until (inside s b) states (inside_nodes s b ∙ n) h.1.0) (tests_same unless s states n h.1.1.0)))
        (states_same ss s states n h.1.1.1)

-- so it is with the body of a node
pub body_same : (known other : List ℕ → Size) (s : Scope) (n : Node) → ((f : List ℕ) → Contains s.nodes f → known f ≡ other f) → NodeIsNamed s n → in_block known n.body ≡ in_block other n.body
body_same known other s n agree h =
    let within = inside_node s n in
    let kept : (with_variables within (controls_of n.contract)).nodes ≡ s.nodes = nodes_kept within (controls_of n.contract) ∙ nodes_kept (with_variables s n.inputs) n.outputs ∙ nodes_kept s n.inputs in
    block_same known other s.nodes agree n.body (with_variables within (controls_of n.contract)) kept h.1.1.1.1.1.1
