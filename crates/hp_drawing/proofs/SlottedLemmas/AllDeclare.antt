-- Where nothing is asked of lists of declarations, any are good.
use Rattle.std.specs.Prelude.{⊤, List, [], ◌∷◌, Option, None, Some}
use Rattle.hp_tree.specs.declared.program.Item.{Item}
use Rattle.hp_tree.specs.declared.program.Item.TheVariants.{TypeItem, NodeItem}
use Rattle.hp_tree.specs.Blocks.{Decl, Block, block, Eqns, no_eqn, more_eqns, Eqn, define, switch, reset, automaton, Arms, no_arm, more_arms, States, no_state, more_states}
use Rattle.hp_tree.specs.Programs.{Contract, Node}
use Rattle.hp_drawing.proofs.SlottedLemmas.Declaring.{BlockDeclares, EqnsDeclare, EqnDeclares, ArmsDeclare, StatesDeclare, ContractDeclares, NodeDeclares, NodesDeclare}

abbrev pub Any : List Decl → Type 0
Any ds = ⊤

mutual
  any_block : (b : Block) → BlockDeclares Any b
  any_block (block ds es) = (tt, any_eqns es)

  any_eqns : (es : Eqns) → EqnsDeclare Any es
  any_eqns no_eqn = tt
  any_eqns (more_eqns e es) = (any_eqn e, any_eqns es)

  any_eqn : (e : Eqn) → EqnDeclares Any e
  any_eqn (define s ys e) = tt
  any_eqn (switch s e arms) = any_arms arms
  any_eqn (reset s b e) = any_block b
  any_eqn (automaton s ss) = any_states ss

  any_arms : (arms : Arms) → ArmsDeclare Any arms
  any_arms no_arm = tt
  any_arms (more_arms c b s arms) = (any_block b, any_arms arms)

  any_states : (ss : States) → StatesDeclare Any ss
  any_states no_state = tt
  any_states (more_states f b until unless s ss) = (any_block b, any_states ss)

any_contract : (o : Option Contract) → ContractDeclares Any o
any_contract None = tt
any_contract (Some c) = any_block c.body

pub any_node : (n : Node) → NodeDeclares Any n
any_node n = (tt, (any_contract n.contract, any_block n.body))

pub any_nodes : (items : List Item) → NodesDeclare Any items
any_nodes [] = tt
any_nodes (TypeItem t ∷ items) = any_nodes items
any_nodes (NodeItem n ∷ items) = (any_node n, any_nodes items)
