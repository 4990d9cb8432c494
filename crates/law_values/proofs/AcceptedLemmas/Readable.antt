-- In a program that may be read each `switch` has an arm and each automaton a state, inputs and controllable variables have no last
-- value, and conditions of transitions are plain.
use Rattle.std.proofs.Common.{◌≡◌, ℕ, List, [], ◌∷◌, refl}
use Rattle.std.specs.Prelude.{⊤, true, false, Option, None, Some}
use Rattle.hp_base.specs.declared.ty.Const.{Const}
use Rattle.hp_tree.specs.declared.block.Trans.{Trans}
use Rattle.hp_tree.specs.declared.program.Item.{Item}
use Rattle.hp_tree.specs.declared.program.Item.TheVariants.{TypeItem, NodeItem}
use Rattle.hp_tree.specs.Expressions.{Expr, constant, variable, last_of, one, two, choose, pre, fby, arrow, when_is, merge, call}
use Rattle.hp_tree.specs.Blocks.{Decl, Block, block, Eqns, no_eqn, more_eqns, Eqn, define, switch, reset, automaton, Arms, no_arm, more_arms, States, no_state, more_states}
use Rattle.hp_tree.specs.Programs.{Contract, Node}
use Rattle.hp_tree.specs.Meaning.{controls_of}
use Rattle.hp_parser.specs.declared.mode.Mode.TheVariants.{Whole, Plain}
use Rattle.hp_print.proofs.Heights.{Good}
use Rattle.hp_print.proofs.Readable.{Each, Path, GoodParameterParts, GoodParameter, GoodTransition, SomeArms, SomeStates, GoodBlock, GoodEqns, GoodEqn, GoodArms, GoodStates, GoodOptional, GoodItem}
use Rattle.law_judged.specs.Named.Scoped.{EachNode}
use Rattle.law_values.specs.Valued.Judged.{PlainExpr, PlainTests, HasState, IsPlain, AllPlain, OnePlain, ArmsPlain, StatesPlain, PlainContract}
use Rattle.law_values.specs.Accepted.Written.{HasArm, BlockArmed, EqnsArmed, EqnArmed, ArmsArmed, StatesArmed, ContractArmed, NoLasts, NodeArmed, NodePlain}

no_last : (o : Option Const) (p : Option Path) → GoodParameterParts false o p → o ≡ None
no_last None None g = refl
no_last None (Some path) g = absurd g
no_last (Some c) None g = absurd g
no_last (Some c) (Some path) g = absurd g

no_lasts : (ds : List Decl) → Each (GoodParameter false) ds → NoLasts ds
no_lasts [] g = tt
no_lasts (d ∷ ds) g = (no_last d.last d.clock g.0, no_lasts ds g.1)

expr_plain : (e : Expr) → Good Plain e → PlainExpr e
expr_plain (constant at c) g = tt
expr_plain (variable at x) g = tt
expr_plain (last_of at x) g = tt
expr_plain (one at op a) g = expr_plain a g
expr_plain (two at op a b) g = (expr_plain a g.0, expr_plain b g.1)
expr_plain (choose at a b c) g = (expr_plain a g.0, (expr_plain b g.1, expr_plain c g.2))
expr_plain (pre at a) g = absurd g.0
expr_plain (fby at a b) g = absurd g.0
expr_plain (arrow at a b) g = absurd g.0
expr_plain (when_is at a c x) g = absurd g.0
expr_plain (merge at x ps) g = absurd g.0
expr_plain (call at f inlined es) g = absurd g.0

some_arm : (arms : Arms) → SomeArms arms → HasArm arms
some_arm no_arm g = absurd g
some_arm (more_arms c b s arms) g = tt

some_state : (qs : States) → SomeStates qs → HasState qs
some_state no_state g = absurd g
some_state (more_states x b until unless s qs) g = tt

module _ (d : ℕ) where
  tests_plain : (ts : List Trans) → Each (GoodTransition d) ts → PlainTests ts
  tests_plain [] g = tt
  tests_plain (t ∷ ts) g = (expr_plain t.cond g.0.0, tests_plain ts g.1)

  mutual
    block_read : (b : Block) → GoodBlock d b → BlockArmed b × IsPlain b
    block_read (block ds es) g = eqns_read es g.1

    eqns_read : (es : Eqns) → GoodEqns d es → EqnsArmed es × AllPlain es
    eqns_read no_eqn g = (tt, tt)
    eqns_read (more_eqns e es) g =
        let h = eqn_read e g.0 in
        let r = eqns_read es g.1 in
        ((h.0, r.0), (h.1, r.1))

    eqn_read : (e : Eqn) → GoodEqn d e → EqnArmed e × OnePlain e
    eqn_read (define s xs e) g = (tt, tt)
    eqn_read (switch s e arms) g = let h = arms_read arms g.2 in ((some_arm arms g.1, h.0), h.1)
    eqn_read (reset s b e) g = block_read b g.0
    eqn_read (automaton s qs) g = let h = states_read qs g.1 in (h.0, (some_state qs g.0, h.1))

    arms_read : (arms : Arms) → GoodArms d arms → ArmsArmed arms × ArmsPlain arms
    arms_read no_arm g = (tt, tt)
    arms_read (more_arms c b s arms) g =
        let h = block_read b g.0 in
        let r = arms_read arms g.1 in
        ((h.0, r.0), (h.1, r.1))

    states_read : (qs : States) → GoodStates d qs → StatesArmed qs × StatesPlain qs
    states_read no_state g = (tt, tt)
    states_read (more_states x b until unless s qs) g =
        let h = block_read b g.0 in
        let r = states_read qs g.3 in
        ((h.0, r.0), (h.1, (tests_plain until g.1, r.1)))

  contract_read : (nested : ℕ) (c : Option Contract) → GoodOptional d nested c → (NoLasts (controls_of c) × ContractArmed c) × PlainContract c
  contract_read nested None g = ((tt, tt), tt)
  contract_read nested (Some c) g = let h = block_read c.body g.0.0 in ((no_lasts c.controls g.3, h.0), h.1)

  pub items_read : (nested : ℕ) (inputs outputs more : Option ℕ) (items : List Item) → Each (GoodItem d nested inputs outputs more) items → EachNode NodeArmed items × EachNode NodePlain items
  items_read nested inputs outputs more [] g = (tt, tt)
  items_read nested inputs outputs more (TypeItem t ∷ items) g = items_read nested inputs outputs more items g.1
  items_read nested inputs outputs more (NodeItem n ∷ items) g =
      let c = contract_read nested n.contract g.0.2 in
      let b = block_read n.body g.0.3 in
      let r = items_read nested inputs outputs more items g.1 in
      ((((no_lasts n.inputs g.0.0.0, c.0.0), (c.0.1, b.0)), r.0), ((b.1, c.1), r.1))
