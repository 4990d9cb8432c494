-- Parts in which nothing is called.
use Rattle.std.specs.Prelude.{⊤, List, [], ◌∷◌, Option, None, Some}
use Rattle.hp_tree.specs.declared.block.Trans.{Trans}
use Rattle.hp_tree.specs.Blocks.{Block, block, Eqns, no_eqn, more_eqns, Eqn, define, switch, reset, automaton, Arms, no_arm, more_arms, States, no_state, more_states}
use Rattle.hp_tree.specs.Expressions.{Expr, constant, variable, last_of, one, two, choose, pre, fby, arrow, when_is, merge, call, Parts, no_part, more_parts}
use Rattle.hp_tree.specs.Programs.{Contract}

abbrev mutual
  pub CallsNothing : Expr → Type 0
  CallsNothing (constant q c) = ⊤
  CallsNothing (variable q x) = ⊤
  CallsNothing (last_of q x) = ⊤
  CallsNothing (one q o a) = CallsNothing a
  CallsNothing (two q o a b) = CallsNothing a × CallsNothing b
  CallsNothing (choose q a b c) = CallsNothing a × CallsNothing b × CallsNothing c
  CallsNothing (pre q a) = CallsNothing a
  CallsNothing (fby q a b) = CallsNothing a × CallsNothing b
  CallsNothing (arrow q a b) = CallsNothing a × CallsNothing b
  CallsNothing (when_is q a c x) = CallsNothing a
  CallsNothing (merge q x ps) = PartsCallNothing ps
  CallsNothing (call q f inlined es) = ⊥

  pub PartsCallNothing : Parts → Type 0
  PartsCallNothing no_part = ⊤
  PartsCallNothing (more_parts c e ps) = CallsNothing e × PartsCallNothing ps

abbrev pub ConditionsCallNothing : List Trans → Type 0
ConditionsCallNothing [] = ⊤
ConditionsCallNothing (q ∷ qs) = CallsNothing q.cond × ConditionsCallNothing qs

abbrev mutual
  pub BlockCallsNothing : Block → Type 0
  BlockCallsNothing (block ds es) = EqnsCallNothing es

  pub EqnsCallNothing : Eqns → Type 0
  EqnsCallNothing no_eqn = ⊤
  EqnsCallNothing (more_eqns e es) = EqnCallsNothing e × EqnsCallNothing es

  pub EqnCallsNothing : Eqn → Type 0
  EqnCallsNothing (define q xs e) = CallsNothing e
  EqnCallsNothing (switch q e arms) = CallsNothing e × ArmsCallNothing arms
  EqnCallsNothing (reset q b e) = BlockCallsNothing b × CallsNothing e
  EqnCallsNothing (automaton q ss) = StatesCallNothing ss

  pub ArmsCallNothing : Arms → Type 0
  ArmsCallNothing no_arm = ⊤
  ArmsCallNothing (more_arms c b q arms) = BlockCallsNothing b × ArmsCallNothing arms

  pub StatesCallNothing : States → Type 0
  StatesCallNothing no_state = ⊤
  StatesCallNothing (more_states f b until unless q ss) = BlockCallsNothing b × ConditionsCallNothing until × ConditionsCallNothing unless × StatesCallNothing ss

abbrev pub ToldCallsNothing : Option Expr → Type 0
ToldCallsNothing None = ⊤
ToldCallsNothing (Some e) = CallsNothing e

abbrev pub ContractCallsNothing : Option Contract → Type 0
ContractCallsNothing None = ⊤
ContractCallsNothing (Some c) = BlockCallsNothing c.body × ToldCallsNothing c.assume × ToldCallsNothing c.enforce
