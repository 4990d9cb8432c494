-- Trees in which each `merge` has a part, as it has in the tree of every text: the grammar asks for one.
use Rattle.std.specs.Prelude.{List, [], ◌∷◌, Option, None, Some}
use Rattle.hp_tree.specs.declared.block.Trans.{Trans}
use Rattle.hp_tree.specs.declared.program.Item.{Item}
use Rattle.hp_tree.specs.declared.program.Item.TheVariants.{TypeItem, NodeItem}
use Rattle.hp_tree.specs.Expressions.{Expr, constant, variable, last_of, one, two, choose, pre, fby, arrow, when_is, merge, call, Exprs, no_expr, more_exprs, Parts, no_part, more_parts}
use Rattle.hp_tree.specs.Blocks.{Block, block, Eqns, no_eqn, more_eqns, Eqn, define, switch, reset, automaton, Arms, no_arm, more_arms, States, no_state, more_states}
use Rattle.hp_tree.specs.Programs.{Contract}

abbrev pub HasPart : Parts → Type 0
HasPart no_part = ⊥
HasPart (more_parts c e ps) = Unit {0}

abbrev mutual
  pub ExprIsFull : Expr → Type 0
  ExprIsFull (constant at c) = Unit {0}
  ExprIsFull (variable at x) = Unit {0}
  ExprIsFull (last_of at x) = Unit {0}
  ExprIsFull (one at op a) = ExprIsFull a
  ExprIsFull (two at op a b) = ExprIsFull a × ExprIsFull b
  ExprIsFull (choose at a b c) = ExprIsFull a × (ExprIsFull b × ExprIsFull c)
  ExprIsFull (pre at a) = ExprIsFull a
  ExprIsFull (fby at a b) = ExprIsFull a × ExprIsFull b
  ExprIsFull (arrow at a b) = ExprIsFull a × ExprIsFull b
  ExprIsFull (when_is at a c x) = ExprIsFull a
  ExprIsFull (merge at x ps) = HasPart ps × PartsAreFull ps
  ExprIsFull (call at f inlined es) = ExprsAreFull es

  pub ExprsAreFull : Exprs → Type 0
  ExprsAreFull no_expr = Unit {0}
  ExprsAreFull (more_exprs e es) = ExprIsFull e × ExprsAreFull es

  pub PartsAreFull : Parts → Type 0
  PartsAreFull no_part = Unit {0}
  PartsAreFull (more_parts c e ps) = ExprIsFull e × PartsAreFull ps

abbrev pub TransitionsAreFull : List Trans → Type 0
TransitionsAreFull [] = Unit {0}
TransitionsAreFull (t ∷ ts) = ExprIsFull t.cond × TransitionsAreFull ts

abbrev mutual
  pub BlockIsFull : Block → Type 0
  BlockIsFull (block ds es) = EqnsAreFull es

  pub EqnsAreFull : Eqns → Type 0
  EqnsAreFull no_eqn = Unit {0}
  EqnsAreFull (more_eqns e es) = EqnIsFull e × EqnsAreFull es

  pub EqnIsFull : Eqn → Type 0
  EqnIsFull (define at xs e) = ExprIsFull e
  EqnIsFull (switch at e arms) = ExprIsFull e × ArmsAreFull arms
  EqnIsFull (reset at b e) = BlockIsFull b × ExprIsFull e
  EqnIsFull (automaton at qs) = StatesAreFull qs

  pub ArmsAreFull : Arms → Type 0
  ArmsAreFull no_arm = Unit {0}
  ArmsAreFull (more_arms c b at arms) = BlockIsFull b × ArmsAreFull arms

  pub StatesAreFull : States → Type 0
  StatesAreFull no_state = Unit {0}
  StatesAreFull (more_states x b until unless at qs) = BlockIsFull b × (TransitionsAreFull until × (TransitionsAreFull unless × StatesAreFull qs))

abbrev pub ConditionIsFull : Option Expr → Type 0
ConditionIsFull None = Unit {0}
ConditionIsFull (Some e) = ExprIsFull e

abbrev pub ContractIsFull : Option Contract → Type 0
ContractIsFull None = Unit {0}
ContractIsFull (Some c) = BlockIsFull c.body × (ConditionIsFull c.assume × ConditionIsFull c.enforce)

abbrev pub ItemIsFull : Item → Type 0
ItemIsFull (TypeItem t) = Unit {0}
ItemIsFull (NodeItem n) = ContractIsFull n.contract × BlockIsFull n.body

-- Each `merge` of the program has a part.
abbrev pub MergesHaveParts : List Item → Type 0
MergesHaveParts [] = Unit {0}
MergesHaveParts (item ∷ items) = ItemIsFull item × MergesHaveParts items
