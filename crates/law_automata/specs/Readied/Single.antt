-- In each block each name is declared once, and each name stands once on a left side.
use Rattle.std.specs.Prelude.{⊤, Option, None, Some}
use Rattle.hp_tree.specs.Blocks.{Block, block, Eqns, no_eqn, more_eqns, Eqn, define, switch, reset, automaton, Arms, no_arm, more_arms, States, no_state, more_states}
use Rattle.hp_tree.specs.Programs.{Contract, Node}
use Rattle.hp_meaning.specs.Clocking.Clocking.{AreOnce}
use Rattle.law_equations.specs.Made.Blocks.{LeftsOnce}

abbrev mutual
  pub BlockSingle : Block → Type 0
  BlockSingle (block ds es) = AreOnce ds × EqnsSingle es

  pub EqnsSingle : Eqns → Type 0
  EqnsSingle no_eqn = ⊤
  EqnsSingle (more_eqns e es) = EqnSingle e × EqnsSingle es

  pub EqnSingle : Eqn → Type 0
  EqnSingle (define s ys e) = LeftsOnce ys
  EqnSingle (switch s e arms) = ArmsSingle arms
  EqnSingle (reset s b e) = BlockSingle b
  EqnSingle (automaton s ss) = StatesSingle ss

  pub ArmsSingle : Arms → Type 0
  ArmsSingle no_arm = ⊤
  ArmsSingle (more_arms c b s arms) = BlockSingle b × ArmsSingle arms

  pub StatesSingle : States → Type 0
  StatesSingle no_state = ⊤
  StatesSingle (more_states f b until unless s ss) = BlockSingle b × StatesSingle ss

abbrev pub ContractSingle : Option Contract → Type 0
ContractSingle None = ⊤
ContractSingle (Some c) = BlockSingle c.body

abbrev pub NodeSingle : Node → Type 0
NodeSingle n = ContractSingle n.contract × BlockSingle n.body
