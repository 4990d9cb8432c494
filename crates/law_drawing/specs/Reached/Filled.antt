-- Each name that a block declares has an equation in it.
-- Source: own.
use Rattle.std.specs.Prelude.{ℕ, ◌≡◌, ⊤, true, List, Option, None, Some}
use Rattle.hp_tree.specs.Blocks.{Block, block, Eqns, no_eqn, more_eqns, Eqn, define, switch, reset, automaton, Arms, no_arm, more_arms, States, no_state, more_states}
use Rattle.hp_tree.specs.Meaning.{declares, some_defines}
use Rattle.hp_tree.specs.Programs.{Contract}

abbrev mutual
  pub IsFilled : Block → Type 0
  IsFilled (block ds es) = ((x : List ℕ) → declares ds x ≡ true → some_defines es x ≡ true) × AllFilled es

  pub AllFilled : Eqns → Type 0
  AllFilled no_eqn = ⊤
  AllFilled (more_eqns e es) = OneFilled e × AllFilled es

  pub OneFilled : Eqn → Type 0
  OneFilled (define q xs e) = ⊤
  OneFilled (switch q e arms) = ArmsFilled arms
  OneFilled (reset q b e) = IsFilled b
  OneFilled (automaton q ss) = StatesFilled ss

  pub ArmsFilled : Arms → Type 0
  ArmsFilled no_arm = ⊤
  ArmsFilled (more_arms c b q arms) = IsFilled b × ArmsFilled arms

  pub StatesFilled : States → Type 0
  StatesFilled no_state = ⊤
  StatesFilled (more_states f b until unless q ss) = IsFilled b × StatesFilled ss

abbrev pub ContractFilled : Option Contract → Type 0
ContractFilled None = ⊤
ContractFilled (Some c) = IsFilled c.body
