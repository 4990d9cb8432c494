-- Each name has one equation in its block: from the judged program to what ordering asks, node by node.
use Rattle.std.proofs.Common.{◌≡◌, Bool, false, None, Some}
use Rattle.std.specs.Prelude.{Option, IsTrue}
use Rattle.hp_tree.specs.Blocks.{Block, block, Eqns, no_eqn, more_eqns, Eqn, define, switch, reset, automaton, Arms, no_arm, more_arms, States, no_state, more_states}
use Rattle.hp_tree.specs.Programs.{Contract, Node}
use Rattle.hp_tree.specs.Meaning.{some_defines}
use Rattle.law_judged.specs.Once.Once.{BlockOnce, AllOnce, OneOnce, ArmsOnce, StatesOnce, ContractOnce, DefinedOnce}
use Rattle.hp_cause.specs.Walked as walked

never : (b : Bool) → b ≡ false → IsTrue b → ⊥
never b e h = absurd cc

mutual
  block_once : (b : Block) → BlockOnce b → walked.DefinedOnce b
  block_once (block ds es) o = all_once es o

  all_once : (es : Eqns) → AllOnce es → walked.DefinedOnceInAll es
  all_once no_eqn o = tt
  all_once (more_eqns e es) o =
      (λ x d s. never (some_defines es x) (o.0 x d) s, one_once e o.1.0, all_once es o.1.1)

  one_once : (e : Eqn) → OneOnce e → walked.DefinedOnceInOne e
  one_once (define s ys e) o = tt
  one_once (switch s e arms) o = arms_once arms o
  one_once (reset s b e) o = block_once b o
  one_once (automaton s ss) o = states_once ss o

  arms_once : (arms : Arms) → ArmsOnce arms → walked.DefinedOnceInArms arms
  arms_once no_arm o = tt
  arms_once (more_arms c b s arms) o = (block_once b o.0, arms_once arms o.1)

  states_once : (ss : States) → StatesOnce ss → walked.DefinedOnceInStates ss
  states_once no_state o = tt
  states_once (more_states f b until unless s ss) o = (block_once b o.0, states_once ss o.1)

contract_once : (c : Option Contract) → ContractOnce c → walked.DefinedOnceInContract c
contract_once None o = tt
contract_once (Some c) o = block_once c.body o

pub node_once : (n : Node) → DefinedOnce n → walked.NamesDefinedOnce n
node_once n o = (contract_once n.contract o.0, block_once n.body o.1)
