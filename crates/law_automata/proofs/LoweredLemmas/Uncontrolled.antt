-- Where there are no controllable variables, it does not matter what is given.
use Rattle.std.proofs.Common.{◌≡◌, ℕ, Bool, true, false, List, [], ◌∷◌, Option, None, Some, reverse, refl, sym, ap, ◌∙◌}
use Rattle.std.specs.Str.{bytes_eq}
use Rattle.hp_base.specs.declared.value.Value.{Value}
use Rattle.hp_base.specs.declared.value.Value.TheVariants.{Nil}
use Rattle.hp_tree.specs.declared.block.Trans.{Trans}
use Rattle.hp_tree.specs.declared.program.Item.{Item}
use Rattle.hp_tree.specs.declared.program.Item.TheVariants.{TypeItem, NodeItem}
use Rattle.hp_tree.specs.Expressions.{Expr, constant, variable, last_of, one, two, choose, pre, fby, arrow, when_is, merge, call, Exprs, no_expr, more_exprs, Parts, no_part, more_parts}
use Rattle.hp_tree.specs.Blocks.{Decl, Block, block, Eqns, no_eqn, more_eqns, Eqn, define, switch, reset, automaton, Arms, no_arm, more_arms, States, no_state, more_states}
use Rattle.hp_tree.specs.Programs.{Contract, Node}
use Rattle.hp_tree.specs.Instant.{Controls, Instant, part}
use Rattle.hp_tree.specs.Meaning.{controls_of}
use Rattle.hp_tree.specs.Reaction.{row_of}
use Rattle.hp_meaning.specs.Causal.Runs.{NoControls}
use Rattle.hp_meaning.proofs.CausalLemmas.Run.{none_reverse}
use Rattle.law_automata.specs.Lowered.Standing.{Relation, either_is}
use Rattle.law_automata.specs.Lowered.Giving.{ExprGiven, ExprsGiven, PartsGiven, BlockGiven, EqnsGiven, EqnGiven, ArmsGiven, StatesGiven, BodyGiven, ConditionGiven, ContractGiven, NodeGiven, given_among}
use Rattle.law_automata.specs.Lowered.Laws.{UncontrolledLaw}

abbrev pub nil : Value → Value
nil given = Nil

module _ (callee : List ℕ → Relation) (all : (f : List ℕ) (i j : Instant) → callee f i j) where
  mutual
    expr_all : (e : Expr) (i j : Instant) → ExprGiven nil callee e i j
    expr_all (constant s c) i j = tt
    expr_all (variable s x) i j = tt
    expr_all (last_of s x) i j = tt
    expr_all (one s o a) i j = expr_all a _ _
    expr_all (two s o a b) i j = (expr_all a _ _, expr_all b _ _)
    expr_all (choose s a b c) i j = (expr_all a _ _, expr_all b _ _, expr_all c _ _)
    expr_all (pre s a) i j = (refl, expr_all a _ _)
    expr_all (fby s a b) i j = (expr_all a _ _, expr_all b _ _)
    expr_all (arrow s a b) i j = (expr_all a _ _, expr_all b _ _)
    expr_all (when_is s a c x) i j = expr_all a _ _
    expr_all (merge s x ps) i j = parts_all ps _ _
    expr_all (call s f inlined es) i j = (exprs_all es _ _, all f _ _)

    exprs_all : (es : Exprs) (i j : Instant) → ExprsGiven nil callee es i j
    exprs_all no_expr i j = tt
    exprs_all (more_exprs e es) i j = (expr_all e _ _, exprs_all es _ _)

    parts_all : (ps : Parts) (i j : Instant) → PartsGiven nil callee ps i j
    parts_all no_part i j = tt
    parts_all (more_parts c e ps) i j = (expr_all e _ _, parts_all ps _ _)

  mutual
    pub block_all : (b : Block) (i j : Instant) → BlockGiven nil callee b i j
    block_all (block ds es) i j = eqns_all es _ _

    eqns_all : (es : Eqns) (i j : Instant) → EqnsGiven nil callee es i j
    eqns_all no_eqn i j = tt
    eqns_all (more_eqns e es) i j = (eqn_all e _ _, eqns_all es _ _)

    eqn_all : (e : Eqn) (i j : Instant) → EqnGiven nil callee e i j
    eqn_all (define s ys e) i j = expr_all e _ _
    eqn_all (switch s e arms) i j = (expr_all e _ _, arms_all arms _ _)
    eqn_all (reset s b e) i j = (expr_all e _ _, block_all b _ _)
    eqn_all (automaton s ss) i j = states_all ss _ _

    arms_all : (arms : Arms) (i j : Instant) → ArmsGiven nil callee arms i j
    arms_all no_arm i j = tt
    arms_all (more_arms c b s arms) i j = (block_all b _ _, arms_all arms _ _)

    states_all : (ss : States) (i j : Instant) → StatesGiven nil callee ss i j
    states_all no_state i j = tt
    states_all (more_states f b until unless s ss) i j = (body_all b until _ _, states_all ss _ _)

    body_all : (b : Block) (until : List Trans) (i j : Instant) → BodyGiven nil callee until b i j
    body_all (block ds es) until i j = eqns_all es _ _

  condition_all : (c : Option Expr) (i j : Instant) → ConditionGiven nil callee c i j
  condition_all None i j = tt
  condition_all (Some e) i j = expr_all e i j

  pub contract_all : (c : Option Contract) (i j : Instant) → ContractGiven nil callee c i j
  contract_all None i j = tt
  contract_all (Some c) i j = (block_all c.body _ _, condition_all c.assume _ _, condition_all c.enforce _ _)

  same_row : (ds : List Decl) (i j : Instant) → ds ≡ [] → row_of ds i ≡ row_of ds j
  same_row ds i j h = ap (λ cs. row_of cs i) h ∙ sym (ap (λ cs. row_of cs j) h)

  node_all : (n : Node) → controls_of n.contract ≡ [] → (i j : Instant) → NodeGiven nil callee n i j
  node_all n h i j = (same_row (controls_of n.contract) (part Controls i) (part Controls j) h, block_all n.body _ _, contract_all n.contract i j)

among_by : (t : Bool) (P Q : Type 0) → P → Q → either_is t P Q
among_by true P Q p q = p
among_by false P Q p q = q

among_all : (items : List Item) → NoControls items → (f : List ℕ) (i j : Instant) → given_among nil items f i j
among_all [] h f i j = tt
among_all (TypeItem t ∷ items) h f i j = among_all items h f i j
among_all (NodeItem n ∷ items) h f i j =
    among_by (bytes_eq n.name f) (NodeGiven nil (given_among nil items) n i j) (given_among nil items f i j) (node_all (given_among nil items) (λ g k l. among_all items h.1 g k l) n h.0 i j) (among_all items h.1 f i j)

pub uncontrolled_law : UncontrolledLaw
uncontrolled_law program h f i j = among_all (reverse program) (none_reverse program h) f i j
