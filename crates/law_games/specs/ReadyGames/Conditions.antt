-- Strong conditions of automata are plain: without memory, and without calls.
-- Source: own. The grammar has plain conditions alone in transitions; of the weak ones it is said where programs are accepted.
use Rattle.std.specs.Prelude.{⊤, Option, None, Some}
use Rattle.hp_tree.specs.Blocks.{Block, block, Eqns, no_eqn, more_eqns, Eqn, define, switch, reset, automaton, Arms, no_arm, more_arms, States, no_state, more_states}
use Rattle.hp_tree.specs.Programs.{Contract, Node}
use Rattle.law_values.specs.Valued.Judged.{PlainTests}

abbrev mutual
  pub StrongPlain : Block → Type 0
  StrongPlain (block ds es) = AllStrongPlain es

  pub AllStrongPlain : Eqns → Type 0
  AllStrongPlain no_eqn = ⊤
  AllStrongPlain (more_eqns e es) = OneStrongPlain e × AllStrongPlain es

  pub OneStrongPlain : Eqn → Type 0
  OneStrongPlain (define s ys e) = ⊤
  OneStrongPlain (switch s e arms) = ArmsStrongPlain arms
  OneStrongPlain (reset s b e) = StrongPlain b
  OneStrongPlain (automaton s ss) = StatesStrongPlain ss

  pub ArmsStrongPlain : Arms → Type 0
  ArmsStrongPlain no_arm = ⊤
  ArmsStrongPlain (more_arms c b s arms) = StrongPlain b × ArmsStrongPlain arms

  pub StatesStrongPlain : States → Type 0
  StatesStrongPlain no_state = ⊤
  StatesStrongPlain (more_states f b until unless s ss) = StrongPlain b × (PlainTests unless × StatesStrongPlain ss)

abbrev pub ContractStrongPlain : Option Contract → Type 0
ContractStrongPlain None = ⊤
ContractStrongPlain (Some c) = StrongPlain c.body

-- of a node
abbrev pub NodeStrongPlain : Node → Type 0
NodeStrongPlain n = ContractStrongPlain n.contract × StrongPlain n.body
