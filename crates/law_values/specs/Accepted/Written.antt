-- What the grammar gives of a program, and a form of judgement that holds for its nodes in their order.
use Rattle.std.specs.Prelude.{◌≡◌, ⊤, ℕ, List, [], ◌∷◌, Option, None, Some}
use Rattle.hp_tree.specs.declared.program.Item.{Item}
use Rattle.hp_tree.specs.declared.program.Item.TheVariants.{TypeItem, NodeItem}
use Rattle.hp_tree.specs.Blocks.{Decl, Block, block, Eqns, no_eqn, more_eqns, Eqn, define, switch, reset, automaton, Arms, no_arm, more_arms, States, no_state, more_states}
use Rattle.hp_tree.specs.Programs.{TypeDecl, Contract, Node}
use Rattle.hp_tree.specs.Meaning.{controls_of, node_among}
use Rattle.hp_meaning.specs.Clocking.Terms.{IsShortest}
use Rattle.hp_meaning.specs.Clocking.Clocking.{Assignment, IsAllowed, node_with_clocks}
use Rattle.law_values.specs.Valued.Judged.{IsPlain, PlainContract, NodeSound}
use Rattle.law_values.specs.Valued.Values.{scope_behind}

-- A `switch` has an arm.
abbrev pub HasArm : Arms → Type 0
HasArm no_arm = ⊥
HasArm (more_arms c b at arms) = ⊤

abbrev mutual
  pub BlockArmed : Block → Type 0
  BlockArmed (block ds es) = EqnsArmed es

  pub EqnsArmed : Eqns → Type 0
  EqnsArmed no_eqn = ⊤
  EqnsArmed (more_eqns e es) = EqnArmed e × EqnsArmed es

  pub EqnArmed : Eqn → Type 0
  EqnArmed (define s ys e) = ⊤
  EqnArmed (switch s e arms) = HasArm arms × ArmsArmed arms
  EqnArmed (reset s b e) = BlockArmed b
  EqnArmed (automaton s ss) = StatesArmed ss

  pub ArmsArmed : Arms → Type 0
  ArmsArmed no_arm = ⊤
  ArmsArmed (more_arms c b s arms) = BlockArmed b × ArmsArmed arms

  pub StatesArmed : States → Type 0
  StatesArmed no_state = ⊤
  StatesArmed (more_states f b until unless s ss) = BlockArmed b × StatesArmed ss

abbrev pub ContractArmed : Option Contract → Type 0
ContractArmed None = ⊤
ContractArmed (Some c) = BlockArmed c.body

-- Inputs and controllable variables have no last value.
abbrev pub NoLasts : List Decl → Type 0
NoLasts [] = ⊤
NoLasts (d ∷ ds) = (d.last ≡ None) × NoLasts ds

abbrev pub NodeArmed : Node → Type 0
NodeArmed n = (NoLasts n.inputs × NoLasts (controls_of n.contract)) × (ContractArmed n.contract × BlockArmed n.body)

-- Behind some items, which stand with the last one first, each node is sound where it stands.
abbrev pub AreSound : List TypeDecl → List Item → List Item → Type 0
AreSound types done [] = ⊤
AreSound types done (TypeItem t ∷ items) = AreSound types (TypeItem t ∷ done) items
AreSound types done (NodeItem n ∷ items) = NodeSound types (node_among done) (scope_behind done) n × AreSound types (NodeItem n ∷ done) items

-- Automata have a state, and conditions of transitions are plain.
abbrev pub NodePlain : Node → Type 0
NodePlain n = IsPlain n.body × PlainContract n.contract

-- These items are those, each node with its shortest clocks written.
abbrev pub AreClocked : List Item → List Item → Type 0
AreClocked [] [] = ⊤
AreClocked (TypeItem t ∷ xs) (y ∷ ys) = (y ≡ TypeItem t) × AreClocked xs ys
AreClocked (NodeItem n ∷ xs) (y ∷ ys) = ((at : Assignment) × (IsShortest (IsAllowed n) at × (y ≡ NodeItem (node_with_clocks at n)))) × AreClocked xs ys
AreClocked xs ys = ⊥
