-- The integers of a program that may be read are of 32 bits.
use Rattle.std.proofs.Common.{ℕ, ℤ, pos, negsuc, Bool, true, false, List, [], ◌∷◌, Option, None, Some, arith}
use Rattle.std.specs.Int.{w32}
use Rattle.std.specs.Int.RustNames.{FitsSigned}
use Rattle.hp_base.specs.declared.ty.Const.{Const}
use Rattle.hp_base.specs.declared.ty.Const.TheVariants as const
use Rattle.hp_tree.specs.declared.block.Trans.{Trans}
use Rattle.hp_tree.specs.declared.program.Item.{Item}
use Rattle.hp_tree.specs.declared.program.Item.TheVariants.{TypeItem, NodeItem}
use Rattle.hp_tree.specs.Expressions.{Expr, constant, variable, last_of, one, two, choose, pre, fby, arrow, when_is, merge, call, Exprs, no_expr, more_exprs, Parts, no_part, more_parts}
use Rattle.hp_tree.specs.Blocks.{Decl, Block, block, Eqns, no_eqn, more_eqns, Eqn, define, switch, reset, automaton, Arms, no_arm, more_arms, States, no_state, more_states}
use Rattle.hp_tree.specs.Programs.{Contract, Node}
use Rattle.hp_parser.specs.declared.mode.Mode.{Mode}
use Rattle.hp_parser.specs.declared.mode.Mode.TheVariants.{Whole, Plain}
use Rattle.hp_print.proofs.Heights.{IsNatural, IsPlainConstant, Good, GoodAll, GoodParts}
use Rattle.hp_print.proofs.Readable as readable
use Rattle.hp_print.proofs.Readable.{IsInteger, GoodConstant, Path, GoodLocal, GoodParameterParts, GoodParameter, Each, GoodTransition, GoodBlock, GoodEqns, GoodEqn, GoodArms, GoodStates, GoodCondition, GoodOptional, GoodItem}
use Rattle.law_judged.specs.Named.Scoped.{EachNode}
use Rattle.law_wellmade.specs.Spelled.Integers.{ConstShort, ExprShort, ExprsShort, PartsShort, LastShort, LastsShort, TestsShort, BlockShort, EqnsShort, EqnShort, ArmsShort, StatesShort, ConditionShort, ContractShort, InputsShort, NodeShort}

natural_short : (n : ℤ) → IsNatural n → FitsSigned w32 n
natural_short (pos n) g = record { sfits = omega (arith, g) }
natural_short (negsuc n) g = absurd g

integer_short : (n : ℤ) → IsInteger n → FitsSigned w32 n
integer_short (pos n) g = record { sfits = omega (arith, g) }
integer_short (negsuc n) g = record { sfits = omega (arith, g) }

plain_short : (c : Const) → IsPlainConstant c → ConstShort c
plain_short (const.B b) g = tt
plain_short (const.I n) g = natural_short n g
plain_short (const.E x) g = tt

constant_short : (c : Const) → GoodConstant c → ConstShort c
constant_short (const.B b) g = tt
constant_short (const.I n) g = integer_short n g
constant_short (const.E x) g = tt

mutual
  expr_short : (mode : Mode) (e : Expr) → Good mode e → ExprShort e
  expr_short mode (constant at c) g = plain_short c g
  expr_short mode (variable at x) g = tt
  expr_short mode (last_of at x) g = tt
  expr_short mode (one at op a) g = expr_short mode a g
  expr_short mode (two at op a b) g = (expr_short mode a g.0, expr_short mode b g.1)
  expr_short mode (choose at a b c) g = (expr_short mode a g.0, (expr_short mode b g.1, expr_short mode c g.2))
  expr_short mode (pre at a) g = expr_short mode a g.1
  expr_short mode (fby at a b) g = (expr_short mode a g.1, expr_short mode b g.2)
  expr_short mode (arrow at a b) g = (expr_short mode a g.1, expr_short mode b g.2)
  expr_short mode (when_is at a c x) g = expr_short mode a g.1
  expr_short mode (merge at x ps) g = parts_short mode ps g.2
  expr_short mode (call at f inlined es) g = exprs_short mode es g.1

  exprs_short : (mode : Mode) (es : Exprs) → GoodAll mode es → ExprsShort es
  exprs_short mode no_expr g = tt
  exprs_short mode (more_exprs e es) g = (expr_short mode e g.0, exprs_short mode es g.1)

  parts_short : (mode : Mode) (ps : Parts) → GoodParts mode ps → PartsShort ps
  parts_short mode no_part g = tt
  parts_short mode (more_parts c e ps) g = (expr_short mode e g.0, parts_short mode ps g.1)

-- ---- declarations

local_short : (last : Option Const) (clock : Option Path) → readable.GoodParts last clock → LastShort last
local_short None clock g = tt
local_short (Some c) None g = constant_short c g
local_short (Some c) (Some path) g = absurd g

locals_short : (ds : List Decl) → Each GoodLocal ds → LastsShort ds
locals_short [] g = tt
locals_short (d ∷ ds) g = (local_short d.last d.clock g.0, locals_short ds g.1)

parameter_short : (may : Bool) (last : Option Const) (clock : Option Path) → GoodParameterParts may last clock → LastShort last
parameter_short may None clock g = tt
parameter_short true (Some c) None g = constant_short c g
parameter_short false (Some c) None g = absurd g
parameter_short true (Some c) (Some path) g = absurd g
parameter_short false (Some c) (Some path) g = absurd g

parameters_short : (may : Bool) (ds : List Decl) → Each (GoodParameter may) ds → LastsShort ds
parameters_short may [] g = tt
parameters_short may (d ∷ ds) g = (parameter_short may d.last d.clock g.0, parameters_short may ds g.1)

-- ---- blocks

module _ (d : ℕ) where
  tests_short : (ts : List Trans) → Each (GoodTransition d) ts → TestsShort ts
  tests_short [] g = tt
  tests_short (t ∷ ts) g = (expr_short Plain t.cond g.0.0, tests_short ts g.1)

  mutual
    block_short : (b : Block) → GoodBlock d b → BlockShort b
    block_short (block ds es) g = (locals_short ds g.0, eqns_short es g.1)

    eqns_short : (es : Eqns) → GoodEqns d es → EqnsShort es
    eqns_short no_eqn g = tt
    eqns_short (more_eqns e es) g = (eqn_short e g.0, eqns_short es g.1)

    eqn_short : (e : Eqn) → GoodEqn d e → EqnShort e
    eqn_short (define s xs e) g = expr_short Whole e g.0
    eqn_short (switch s e arms) g = (expr_short Whole e g.0.0, arms_short arms g.2)
    eqn_short (reset s b e) g = (expr_short Whole e g.1.0, block_short b g.0)
    eqn_short (automaton s qs) g = states_short qs g.1

    arms_short : (arms : Arms) → GoodArms d arms → ArmsShort arms
    arms_short no_arm g = tt
    arms_short (more_arms c b s arms) g = (block_short b g.0, arms_short arms g.1)

    states_short : (qs : States) → GoodStates d qs → StatesShort qs
    states_short no_state g = tt
    states_short (more_states x b until unless s qs) g = ((block_short b g.0, (tests_short until g.1, tests_short unless g.2)), states_short qs g.3)

  pub items_short : (nested : ℕ) (inputs outputs more : Option ℕ) (items : List Item) → Each (GoodItem d nested inputs outputs more) items → EachNode NodeShort items
  items_short nested inputs outputs more [] g = tt
  items_short nested inputs outputs more (TypeItem t ∷ items) g = items_short nested inputs outputs more items g.1
  items_short nested inputs outputs more (NodeItem n ∷ items) g =
      ((parameters_short true n.outputs g.0.1.0, block_short n.body g.0.3), items_short nested inputs outputs more items g.1)

  pub inputs_short : (nested : ℕ) (inputs outputs more : Option ℕ) (items : List Item) → Each (GoodItem d nested inputs outputs more) items → EachNode InputsShort items
  inputs_short nested inputs outputs more [] g = tt
  inputs_short nested inputs outputs more (TypeItem t ∷ items) g = inputs_short nested inputs outputs more items g.1
  inputs_short nested inputs outputs more (NodeItem n ∷ items) g = (parameters_short false n.inputs g.0.0.0, inputs_short nested inputs outputs more items g.1)

  -- ---- contracts

  condition_short : (o : Option Expr) → GoodCondition d o → ConditionShort o
  condition_short None g = tt
  condition_short (Some e) g = expr_short Whole e g.0

  contract_short : (nested : ℕ) (o : Option Contract) → GoodOptional d nested o → ContractShort o
  contract_short nested None g = tt
  contract_short nested (Some c) g = (block_short c.body g.0.0, (condition_short c.assume g.1, condition_short c.enforce g.2))

  pub contracts_short : (nested : ℕ) (inputs outputs more : Option ℕ) (items : List Item) → Each (GoodItem d nested inputs outputs more) items → EachNode (λ (n : Node). ContractShort n.contract) items
  contracts_short nested inputs outputs more [] g = tt
  contracts_short nested inputs outputs more (TypeItem t ∷ items) g = contracts_short nested inputs outputs more items g.1
  contracts_short nested inputs outputs more (NodeItem n ∷ items) g = (contract_short nested n.contract g.0.2, contracts_short nested inputs outputs more items g.1)
