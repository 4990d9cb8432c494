-- What is asked of the blocks of a node, so that they can be drawn, without the types of their expressions: constructors in the clocks of declarations are of the types of their names, the arms of a `switch` name constructors of
-- one type, and states have names of their own.
-- Source: own. It says nothing of the types of expressions, so replacing inlined calls keeps it.
use Rattle.std.specs.Prelude.{⊤, Option, None, Some}
use Rattle.hp_base.specs.declared.ty.Ty.{Ty}
use Rattle.hp_tree.specs.Blocks.{Block, block, Eqns, no_eqn, more_eqns, Eqn, define, switch, reset, automaton, Arms, no_arm, more_arms, States, no_state, more_states}
use Rattle.hp_tree.specs.Programs.{Contract, Node}
use Rattle.hp_tree.specs.Meaning.{controls_of}
use Rattle.law_judged.specs.Typed.Scopes.{Scope}
use Rattle.law_values.specs.Valued.Judged.{of_arms}
use Rattle.law_wellmade.specs.Tested.Around.{Around, among, AllConses, DeclsAround, interface_of}
use Rattle.law_drawing.specs.Carrying.Drawable.{StatesApart}

-- where `known` knows all constructors, among the names around
module _ (known : Scope) where
  abbrev pub ArmsAlike : Arms → Type 0
  ArmsAlike arms = (t : Ty) × AllConses known t (of_arms arms)

  abbrev mutual
    pub BlockTidy : Around → Block → Type 0
    BlockTidy G (block ds es) = DeclsAround known (among G ds) ds × EqnsTidy (among G ds) es

    pub EqnsTidy : Around → Eqns → Type 0
    EqnsTidy G no_eqn = ⊤
    EqnsTidy G (more_eqns e es) = EqnTidy G e × EqnsTidy G es

    pub EqnTidy : Around → Eqn → Type 0
    EqnTidy G (define a ys e) = ⊤
    EqnTidy G (switch a e arms) = ArmsAlike arms × ArmsTidy G arms
    EqnTidy G (reset a b e) = BlockTidy G b
    EqnTidy G (automaton a ss) = StatesApart ss × StatesTidy G ss

    pub ArmsTidy : Around → Arms → Type 0
    ArmsTidy G no_arm = ⊤
    ArmsTidy G (more_arms c b a arms) = BlockTidy G b × ArmsTidy G arms

    pub StatesTidy : Around → States → Type 0
    StatesTidy G no_state = ⊤
    StatesTidy G (more_states f b until unless a ss) = BlockTidy G b × StatesTidy G ss

  abbrev pub ContractTidy : Around → Option Contract → Type 0
  ContractTidy G None = ⊤
  ContractTidy G (Some c) = BlockTidy G c.body

  -- a node: its inputs and outputs, its body and its contract
  abbrev pub NodeTidy : Node → Type 0
  NodeTidy n =
      (DeclsAround known (interface_of n) n.inputs × DeclsAround known (interface_of n) n.outputs)
      × (BlockTidy (among (interface_of n) (controls_of n.contract)) n.body × ContractTidy (interface_of n) n.contract)
