-- What is given at an instant of a program and at one of the program without its automata: the same at each `pre`, where no past is,
-- and to the controllable variables of the node and of each instance.
use Rattle.std.specs.Prelude.{ℕ, ◌≡◌, List, [], ◌∷◌, Option, None, Some, ⊤, reverse}
use Rattle.std.specs.Str.{bytes_eq}
use Rattle.hp_base.specs.declared.value.Value.{Value}
use Rattle.hp_tree.specs.declared.block.Trans.{Trans}
use Rattle.hp_tree.specs.declared.program.Item.{Item}
use Rattle.hp_tree.specs.declared.program.Item.TheVariants.{TypeItem, NodeItem}
use Rattle.hp_tree.specs.Expressions.{Expr, constant, variable, last_of, one, two, choose, pre, fby, arrow, when_is, merge, call, Exprs, no_expr, more_exprs, Parts, no_part, more_parts}
use Rattle.hp_tree.specs.Blocks.{Block, block, Eqns, no_eqn, more_eqns, Eqn, define, switch, reset, automaton, Arms, no_arm, more_arms, States, no_state, more_states}
use Rattle.hp_tree.specs.Programs.{Contract, Node}
use Rattle.hp_tree.specs.Operators.{Reading, real}
use Rattle.hp_tree.specs.Meaning.{controls_of}
use Rattle.hp_tree.specs.Reaction.{row_of}
use Rattle.hp_tree.specs.Instant.{Controls, Body, Observer, Assume, Enforce, Equations, Head, Tail, Right, Test, Arms as ArmsOf, States as StatesOf, First, Second, Third, Args, Instance, part, top}
use Rattle.law_automata.specs.Lowered.Standing.{Relation, behind, arm_in, body_in, states_in, switch_in, later_in, either_is}

-- the language, where a `pre` without a past gives what `u` makes of what is given there
abbrev pub reading : (Value → Value) → Reading
reading u = record real { undefined = u }

-- `u` is what a `pre` without a past gives; `callee` says it of instances of each node
module _ (u : Value → Value) (callee : List ℕ → Relation) where
  abbrev mutual
    pub ExprGiven : Expr → Relation
    ExprGiven (constant s c) i j = ⊤
    ExprGiven (variable s x) i j = ⊤
    ExprGiven (last_of s x) i j = ⊤
    ExprGiven (one s o a) i j = ExprGiven a (part First i) (part First j)
    ExprGiven (two s o a b) i j = ExprGiven a (part First i) (part First j) × ExprGiven b (part Second i) (part Second j)
    ExprGiven (choose s a b c) i j =
        ExprGiven a (part First i) (part First j) × ExprGiven b (part Second i) (part Second j) × ExprGiven c (part Third i) (part Third j)
    ExprGiven (pre s a) i j = (u (top i) ≡ u (top j)) × ExprGiven a (part First i) (part First j)
    ExprGiven (fby s a b) i j = ExprGiven a (part First i) (part First j) × ExprGiven b (part Second i) (part Second j)
    ExprGiven (arrow s a b) i j = ExprGiven a (part First i) (part First j) × ExprGiven b (part Second i) (part Second j)
    ExprGiven (when_is s a c x) i j = ExprGiven a (part First i) (part First j)
    ExprGiven (merge s x ps) i j = PartsGiven ps (part Args i) (part Args j)
    ExprGiven (call s f inlined es) i j = ExprsGiven es (part Args i) (part Args j) × callee f (part Instance i) (part Instance j)

    pub ExprsGiven : Exprs → Relation
    ExprsGiven no_expr i j = ⊤
    ExprsGiven (more_exprs e es) i j = ExprGiven e (part Head i) (part Head j) × ExprsGiven es (part Tail i) (part Tail j)

    pub PartsGiven : Parts → Relation
    PartsGiven no_part i j = ⊤
    PartsGiven (more_parts c e ps) i j = ExprGiven e (part Head i) (part Head j) × PartsGiven ps (part Tail i) (part Tail j)

  abbrev mutual
    pub BlockGiven : Block → Relation
    BlockGiven (block ds es) i j = EqnsGiven es (part Equations i) (part Equations j)

    pub EqnsGiven : Eqns → Relation
    EqnsGiven no_eqn i j = ⊤
    EqnsGiven (more_eqns e es) i j = EqnGiven e (part Head i) (part Head j) × EqnsGiven es (part Tail i) (part Tail j)

    pub EqnGiven : Eqn → Relation
    EqnGiven (define s ys e) i j = ExprGiven e (part Right i) (part Right j)
    EqnGiven (switch s e arms) i j = ExprGiven e (part Test i) (part Test j) × ArmsGiven arms (part ArmsOf i) (part ArmsOf j)
    EqnGiven (reset s b e) i j = ExprGiven e (part Test i) (part Test j) × BlockGiven b (part Body i) (part Body j)
    EqnGiven (automaton s ss) i j = StatesGiven ss (part StatesOf i) (states_in ss j)

    pub ArmsGiven : Arms → Relation
    ArmsGiven no_arm i j = ⊤
    ArmsGiven (more_arms c b s arms) i j = BlockGiven b (part Head i) (part Head j) × ArmsGiven arms (part Tail i) (part Tail j)

    pub StatesGiven : States → Relation
    StatesGiven no_state i j = ⊤
    StatesGiven (more_states f b until unless s ss) i j =
        BodyGiven until b (part Body (part Head i)) (body_in (arm_in (switch_in unless j))) × StatesGiven ss (part Tail i) (later_in unless j)

    pub BodyGiven : List Trans → Block → Relation
    BodyGiven until (block ds es) i j = EqnsGiven es (part Equations i) (part Tail (behind until (part Equations j)))

  abbrev pub ConditionGiven : Option Expr → Relation
  ConditionGiven None i j = ⊤
  ConditionGiven (Some e) i j = ExprGiven e i j

  abbrev pub ContractGiven : Option Contract → Relation
  ContractGiven None i j = ⊤
  ContractGiven (Some c) i j =
      BlockGiven c.body (part Observer i) (part Observer j) × ConditionGiven c.assume (part Assume i) (part Assume j) × ConditionGiven c.enforce (part Enforce i) (part Enforce j)

  abbrev pub NodeGiven : Node → Relation
  NodeGiven n i j =
      (row_of (controls_of n.contract) (part Controls i) ≡ row_of (controls_of n.contract) (part Controls j)) × BlockGiven n.body (part Body i) (part Body j) × ContractGiven n.contract i j

-- to the node of a name, where the nodes are given the last one first
abbrev pub given_among : (Value → Value) → List Item → List ℕ → Relation
given_among u [] f i j = ⊤
given_among u (TypeItem t ∷ earlier) f i j = given_among u earlier f i j
given_among u (NodeItem n ∷ earlier) f i j = either_is (bytes_eq n.name f) (NodeGiven u (given_among u earlier) n i j) (given_among u earlier f i j)

-- to the node of a name, in a program
abbrev pub SameGiven : (Value → Value) → List Item → List ℕ → Relation
SameGiven u program f = given_among u (reverse program) f
