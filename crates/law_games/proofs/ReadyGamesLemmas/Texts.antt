-- In the program of a text strong conditions are plain.
use Rattle.std.proofs.Common.{ℕ, List, [], ◌∷◌}
use Rattle.std.specs.Prelude.{Option, None, Some}
use Rattle.hp_tree.specs.declared.block.Trans.{Trans}
use Rattle.hp_tree.specs.declared.program.Item.{Item}
use Rattle.hp_tree.specs.declared.program.Item.TheVariants.{TypeItem, NodeItem}
use Rattle.hp_tree.specs.Expressions.{Expr, constant, variable, last_of, one, two, choose, pre, fby, arrow, when_is, merge, call}
use Rattle.hp_tree.specs.Blocks.{Block, block, Eqns, no_eqn, more_eqns, Eqn, define, switch, reset, automaton, Arms, no_arm, more_arms, States, no_state, more_states}
use Rattle.hp_tree.specs.Programs.{Contract}
use Rattle.hp_parser.specs.declared.mode.Mode.TheVariants.{Plain}
use Rattle.hp_print.proofs.Heights.{Good}
use Rattle.hp_print.proofs.Readable.{Each, GoodTransition, GoodBlock, GoodEqns, GoodEqn, GoodArms, GoodStates, GoodOptional, GoodItem}
use Rattle.law_judged.proofs.PlainLemmas.Spelled.{found_of}
use Rattle.law_judged.specs.Named.Scoped.{EachNode}
use Rattle.law_values.specs.Valued.Judged.{PlainExpr, PlainTests}
use Rattle.law_games.specs.ReadyGames.Conditions.{StrongPlain, AllStrongPlain, OneStrongPlain, ArmsStrongPlain, StatesStrongPlain, ContractStrongPlain, NodeStrongPlain}
use Rattle.law_games.specs.ReadyGames.Laws.{TextConditionsLaw}

expr_plain : (e : Expr) → Good Plain e → PlainExpr e
expr_plain (constant at c) g = tt
expr_plain (variable at x) g = tt
expr_plain (last_of at x) g = tt
expr_plain (one at op a) g = expr_plain a g
expr_plain (two at op a b) g = (expr_plain a g.0, expr_plain b g.1)
expr_plain (choose at a b c) g = (expr_plain a g.0, (expr_plain b g.1, expr_plain c g.2))
expr_plain (pre at a) g = absurd g.0
expr_plain (fby at a b) g = absurd g.0
expr_plain (arrow at a b) g = absurd g.0
expr_plain (when_is at a c x) g = absurd g.0
expr_plain (merge at x ps) g = absurd g.0
expr_plain (call at f inlined es) g = absurd g.0

module _ (d : ℕ) where
  tests_plain : (ts : List Trans) → Each (GoodTransition d) ts → PlainTests ts
  tests_plain [] g = tt
  tests_plain (t ∷ ts) g = (expr_plain t.cond g.0.0, tests_plain ts g.1)

  mutual
    block_strong : (b : Block) → GoodBlock d b → StrongPlain b
    block_strong (block ds es) g = eqns_strong es g.1

    eqns_strong : (es : Eqns) → GoodEqns d es → AllStrongPlain es
    eqns_strong no_eqn g = tt
    eqns_strong (more_eqns e es) g = (eqn_strong e g.0, eqns_strong es g.1)

    eqn_strong : (e : Eqn) → GoodEqn d e → OneStrongPlain e
    eqn_strong (define s xs e) g = tt
    eqn_strong (switch s e arms) g = arms_strong arms g.2
    eqn_strong (reset s b e) g = block_strong b g.0
    eqn_strong (automaton s qs) g = states_strong qs g.1

    arms_strong : (arms : Arms) → GoodArms d arms → ArmsStrongPlain arms
    arms_strong no_arm g = tt
    arms_strong (more_arms c b s arms) g = (block_strong b g.0, arms_strong arms g.1)

    states_strong : (qs : States) → GoodStates d qs → StatesStrongPlain qs
    states_strong no_state g = tt
    states_strong (more_states x b until unless s qs) g = (block_strong b g.0, (tests_plain unless g.2, states_strong qs g.3))

  contract_strong : (nested : ℕ) (c : Option Contract) → GoodOptional d nested c → ContractStrongPlain c
  contract_strong nested None g = tt
  contract_strong nested (Some c) g = block_strong c.body g.0.0

  items_strong : (nested : ℕ) (inputs outputs more : Option ℕ) (items : List Item) → Each (GoodItem d nested inputs outputs more) items → EachNode NodeStrongPlain items
  items_strong nested inputs outputs more [] g = tt
  items_strong nested inputs outputs more (TypeItem t ∷ items) g = items_strong nested inputs outputs more items g.1
  items_strong nested inputs outputs more (NodeItem n ∷ items) g = ((contract_strong nested n.contract g.0.2, block_strong n.body g.0.3), items_strong nested inputs outputs more items g.1)

pub text_conditions : TextConditionsLaw
text_conditions text tokens program a p = items_strong 200 64 (Some 64) (Some 64) (Some 63) program (found_of text tokens program a.read p).0.0
