-- The integers that a program writes are of 32 bits, as those of every text are: the lexer takes no other.
use Rattle.std.specs.Prelude.{⊤, List, [], ◌∷◌, Option, None, Some}
use Rattle.std.specs.Int.{w32}
use Rattle.std.specs.Int.RustNames.{FitsSigned}
use Rattle.hp_base.specs.declared.ty.Const.{Const}
use Rattle.hp_base.specs.declared.ty.Const.TheVariants as const
use Rattle.hp_tree.specs.Expressions.{Expr, constant, variable, last_of, one, two, choose, pre, fby, arrow, when_is, merge, call, Exprs, no_expr, more_exprs, Parts, no_part, more_parts}
use Rattle.hp_tree.specs.Blocks.{Decl, Block, block, Eqns, no_eqn, more_eqns, Eqn, define, switch, reset, automaton, Arms, no_arm, more_arms, States, no_state, more_states}
use Rattle.hp_tree.specs.declared.block.Trans.{Trans}
use Rattle.hp_tree.specs.Programs.{Contract, Node}

abbrev pub ConstShort : Const → Type 0
ConstShort (const.I n) = FitsSigned w32 n
ConstShort c = ⊤

abbrev mutual
  pub ExprShort : Expr → Type 0
  ExprShort (constant a c) = ConstShort c
  ExprShort (variable a x) = ⊤
  ExprShort (last_of a x) = ⊤
  ExprShort (one a o d) = ExprShort d
  ExprShort (two a o d e) = ExprShort d × ExprShort e
  ExprShort (choose a d e f) = ExprShort d × (ExprShort e × ExprShort f)
  ExprShort (pre a d) = ExprShort d
  ExprShort (fby a d e) = ExprShort d × ExprShort e
  ExprShort (arrow a d e) = ExprShort d × ExprShort e
  ExprShort (when_is a d c x) = ExprShort d
  ExprShort (merge a x ps) = PartsShort ps
  ExprShort (call a f inlined es) = ExprsShort es

  pub ExprsShort : Exprs → Type 0
  ExprsShort no_expr = ⊤
  ExprsShort (more_exprs e es) = ExprShort e × ExprsShort es

  pub PartsShort : Parts → Type 0
  PartsShort no_part = ⊤
  PartsShort (more_parts c e ps) = ExprShort e × PartsShort ps

-- the first values of declarations
abbrev pub LastShort : Option Const → Type 0
LastShort None = ⊤
LastShort (Some c) = ConstShort c

abbrev pub LastsShort : List Decl → Type 0
LastsShort [] = ⊤
LastsShort (d ∷ ds) = LastShort d.last × LastsShort ds

-- the conditions of transitions
abbrev pub TestsShort : List Trans → Type 0
TestsShort [] = ⊤
TestsShort (t ∷ ts) = ExprShort t.cond × TestsShort ts

abbrev mutual
  pub BlockShort : Block → Type 0
  BlockShort (block ds es) = LastsShort ds × EqnsShort es

  pub EqnsShort : Eqns → Type 0
  EqnsShort no_eqn = ⊤
  EqnsShort (more_eqns e es) = EqnShort e × EqnsShort es

  pub EqnShort : Eqn → Type 0
  EqnShort (define a ys e) = ExprShort e
  EqnShort (switch a e arms) = ExprShort e × ArmsShort arms
  EqnShort (reset a b e) = ExprShort e × BlockShort b
  EqnShort (automaton a ss) = StatesShort ss

  pub ArmsShort : Arms → Type 0
  ArmsShort no_arm = ⊤
  ArmsShort (more_arms c b a arms) = BlockShort b × ArmsShort arms

  pub StatesShort : States → Type 0
  StatesShort no_state = ⊤
  StatesShort (more_states f b until unless a ss) = (BlockShort b × (TestsShort until × TestsShort unless)) × StatesShort ss

-- the body of a node, and the first values of its outputs
abbrev pub NodeShort : Node → Type 0
NodeShort n = LastsShort n.outputs × BlockShort n.body

-- the first values of its inputs, of which a text has none
abbrev pub InputsShort : Node → Type 0
InputsShort n = LastsShort n.inputs

-- what a contract assumes or enforces
abbrev pub ConditionShort : Option Expr → Type 0
ConditionShort None = ⊤
ConditionShort (Some e) = ExprShort e

-- the block of a contract, and its conditions
abbrev pub ContractShort : Option Contract → Type 0
ContractShort None = ⊤
ContractShort (Some c) = BlockShort c.body × (ConditionShort c.assume × ConditionShort c.enforce)
