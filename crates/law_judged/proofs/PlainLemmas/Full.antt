-- In a program that may be read each `merge` has a part.
use Rattle.std.proofs.Common.{ℕ, List, [], ◌∷◌, Option, None, Some}
use Rattle.hp_tree.specs.declared.block.Trans.{Trans}
use Rattle.hp_tree.specs.declared.program.Item.{Item}
use Rattle.hp_tree.specs.declared.program.Item.TheVariants.{TypeItem, NodeItem}
use Rattle.hp_tree.specs.Expressions.{Expr, constant, variable, last_of, one, two, choose, pre, fby, arrow, when_is, merge, call, Exprs, no_expr, more_exprs, Parts, no_part, more_parts}
use Rattle.hp_tree.specs.Blocks.{Block, block, Eqns, no_eqn, more_eqns, Eqn, define, switch, reset, automaton, Arms, no_arm, more_arms, States, no_state, more_states}
use Rattle.hp_tree.specs.Programs.{Contract}
use Rattle.hp_parser.specs.declared.mode.Mode.{Mode}
use Rattle.hp_parser.specs.declared.mode.Mode.TheVariants.{Whole, Plain}
use Rattle.hp_print.proofs.Heights.{SomeParts, Good, GoodAll, GoodParts}
use Rattle.hp_print.proofs.Readable.{Each, GoodTransition, GoodBlock, GoodEqns, GoodEqn, GoodArms, GoodStates, GoodCondition, GoodOptional, GoodItem}
use Rattle.law_judged.specs.Typed.Merges.{HasPart, ExprIsFull, ExprsAreFull, PartsAreFull, TransitionsAreFull, BlockIsFull, EqnsAreFull, EqnIsFull, ArmsAreFull, StatesAreFull, ConditionIsFull, ContractIsFull, MergesHaveParts}

some_part : (ps : Parts) → SomeParts ps → HasPart ps
some_part no_part h = absurd h
some_part (more_parts c e ps) h = tt

mutual
  expr_full : (mode : Mode) (e : Expr) → Good mode e → ExprIsFull e
  expr_full mode (constant at c) g = tt
  expr_full mode (variable at x) g = tt
  expr_full mode (last_of at x) g = tt
  expr_full mode (one at op a) g = expr_full mode a g
  expr_full mode (two at op a b) g = (expr_full mode a g.0, expr_full mode b g.1)
  expr_full mode (choose at a b c) g = (expr_full mode a g.0, (expr_full mode b g.1, expr_full mode c g.2))
  expr_full mode (pre at a) g = expr_full mode a g.1
  expr_full mode (fby at a b) g = (expr_full mode a g.1, expr_full mode b g.2)
  expr_full mode (arrow at a b) g = (expr_full mode a g.1, expr_full mode b g.2)
  expr_full mode (when_is at a c x) g = expr_full mode a g.1
  expr_full mode (merge at x ps) g = (some_part ps g.1, parts_full mode ps g.2)
  expr_full mode (call at f inlined es) g = exprs_full mode es g.1

  exprs_full : (mode : Mode) (es : Exprs) → GoodAll mode es → ExprsAreFull es
  exprs_full mode no_expr g = tt
  exprs_full mode (more_exprs e es) g = (expr_full mode e g.0, exprs_full mode es g.1)

  parts_full : (mode : Mode) (ps : Parts) → GoodParts mode ps → PartsAreFull ps
  parts_full mode no_part g = tt
  parts_full mode (more_parts c e ps) g = (expr_full mode e g.0, parts_full mode ps g.1)

module _ (d : ℕ) where
  transitions_full : (ts : List Trans) → Each (GoodTransition d) ts → TransitionsAreFull ts
  transitions_full [] g = tt
  transitions_full (t ∷ ts) g = (expr_full Plain t.cond g.0.0, transitions_full ts g.1)

  mutual
    block_full : (b : Block) → GoodBlock d b → BlockIsFull b
    block_full (block ds es) g = eqns_full es g.1

    eqns_full : (es : Eqns) → GoodEqns d es → EqnsAreFull es
    eqns_full no_eqn g = tt
    eqns_full (more_eqns e es) g = (eqn_full e g.0, eqns_full es g.1)

    eqn_full : (e : Eqn) → GoodEqn d e → EqnIsFull e
    eqn_full (define s xs e) g = expr_full Whole e g.0
    eqn_full (switch s e arms) g = (expr_full Whole e g.0.0, arms_full arms g.2)
    eqn_full (reset s b e) g = (block_full b g.0, expr_full Whole e g.1.0)
    eqn_full (automaton s qs) g = states_full qs g.1

    arms_full : (arms : Arms) → GoodArms d arms → ArmsAreFull arms
    arms_full no_arm g = tt
    arms_full (more_arms c b s arms) g = (block_full b g.0, arms_full arms g.1)

    states_full : (qs : States) → GoodStates d qs → StatesAreFull qs
    states_full no_state g = tt
    states_full (more_states x b until unless s qs) g = (block_full b g.0, (transitions_full until g.1, (transitions_full unless g.2, states_full qs g.3)))

  condition_full : (e : Option Expr) → GoodCondition d e → ConditionIsFull e
  condition_full None g = tt
  condition_full (Some e) g = expr_full Whole e g.0

  contract_full : (nested : ℕ) (c : Option Contract) → GoodOptional d nested c → ContractIsFull c
  contract_full nested None g = tt
  contract_full nested (Some c) g = (block_full c.body g.0.0, (condition_full c.assume g.1, condition_full c.enforce g.2))

  pub items_full : (nested : ℕ) (inputs outputs more : Option ℕ) (items : List Item) → Each (GoodItem d nested inputs outputs more) items → MergesHaveParts items
  items_full nested inputs outputs more [] g = tt
  items_full nested inputs outputs more (TypeItem t ∷ items) g = (tt, items_full nested inputs outputs more items g.1)
  items_full nested inputs outputs more (NodeItem n ∷ items) g = ((contract_full nested n.contract g.0.2, block_full n.body g.0.3), items_full nested inputs outputs more items g.1)
