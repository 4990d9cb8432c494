-- No constructor stands twice among the parts of a `merge`, nor among the arms of a `switch`: so it is in a block, and in a contract.
-- Source: own. It says nothing of types, so writing clocks keeps it.
use Rattle.std.specs.Prelude.{⊤, Option, None, Some}
use Rattle.hp_tree.specs.Expressions.{Expr}
use Rattle.hp_tree.specs.Blocks.{Block, block, Eqns, no_eqn, more_eqns, Eqn, define, switch, reset, automaton, Arms, no_arm, more_arms, States, no_state, more_states}
use Rattle.hp_tree.specs.Programs.{Contract}
use Rattle.law_values.specs.Valued.Judged.{of_arms}
use Rattle.law_wellmade.specs.Timely.Tested.{AreApart}
use Rattle.law_wellmade.specs.Tested.Fits.{ExprApart, TestsApart}

abbrev mutual
  pub BlockApart : Block → Type 0
  BlockApart (block ds es) = EqnsApart es

  pub EqnsApart : Eqns → Type 0
  EqnsApart no_eqn = ⊤
  EqnsApart (more_eqns e es) = EqnApart e × EqnsApart es

  pub EqnApart : Eqn → Type 0
  EqnApart (define a ys e) = ExprApart e
  EqnApart (switch a e arms) = ExprApart e × (AreApart (of_arms arms) × ArmsApart arms)
  EqnApart (reset a b e) = ExprApart e × BlockApart b
  EqnApart (automaton a ss) = StatesApart ss

  pub ArmsApart : Arms → Type 0
  ArmsApart no_arm = ⊤
  ArmsApart (more_arms c b a arms) = BlockApart b × ArmsApart arms

  pub StatesApart : States → Type 0
  StatesApart no_state = ⊤
  StatesApart (more_states f b until unless a ss) = BlockApart b × (TestsApart until × (TestsApart unless × StatesApart ss))

-- what a contract assumes or enforces
abbrev pub ConditionApart : Option Expr → Type 0
ConditionApart None = ⊤
ConditionApart (Some e) = ExprApart e

-- the block of a contract, and its conditions
abbrev pub ContractApart : Option Contract → Type 0
ContractApart None = ⊤
ContractApart (Some c) = BlockApart c.body × (ConditionApart c.assume × ConditionApart c.enforce)
