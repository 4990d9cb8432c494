-- Programs in which each expression has a type, in the scope where it stands. Each variable, constructor and type that is named
-- is known there, and each call has its outputs.
use Rattle.std.specs.Prelude.{◌≡◌, ℕ, List, [], ◌∷◌, Option, None, Some, IsSome, IsSomeAnd, length}
use Rattle.hp_base.specs.declared.span.Span.{Span}
use Rattle.hp_base.specs.declared.ty.Ty.{Ty}
use Rattle.hp_base.specs.declared.ty.Ty.TheVariants.{Bool as bool, Int as int, Enum as enum}
use Rattle.hp_base.specs.declared.ty.Const.{Const}
use Rattle.hp_tree.specs.declared.decl.Cons.{Cons}
use Rattle.hp_tree.specs.declared.block.Trans.{Trans}
use Rattle.hp_tree.specs.declared.program.Item.{Item}
use Rattle.hp_tree.specs.declared.program.Item.TheVariants.{TypeItem, NodeItem}
use Rattle.hp_tree.specs.Expressions.{Expr, constant, variable, last_of, one, two, choose, pre, fby, arrow, when_is, merge, call, Exprs, no_expr, more_exprs, Parts, no_part, more_parts}
use Rattle.hp_tree.specs.Blocks.{Decl, Block, block, Eqns, no_eqn, more_eqns, Eqn, define, switch, reset, automaton, Arms, no_arm, more_arms, States, no_state, more_states}
use Rattle.hp_tree.specs.Programs.{Contract, Node}
use Rattle.hp_names.specs.Rules.{WellNamed}
use Rattle.hp_typing.specs.Rules.{WellTyped}
use Rattle.hp_base.specs.Known.Known.{lookup}
use Rattle.hp_tree.specs.Meaning.{controls_of}
use Rattle.hp_typing.specs.Scopes.{nothing, with_variables, inside, inside_node, behind}
use Rattle.hp_typing.specs.Types.{type_of, types_in, outputs_in, constant_type, cons_type}
use Rattle.law_judged.specs.Typed.Scopes.{Scope}
use Rattle.law_judged.specs.Typed.Merges.{MergesHaveParts}

abbrev pub HasType : Scope → Expr → Type 0
HasType s e = IsSome (type_of s e)

-- The name is that of a variable in scope, the constructor that of a type.
abbrev pub NameHasType : Scope → List ℕ → Type 0
NameHasType s x = IsSome (lookup s.variables x)

abbrev pub ConsHasType : Scope → Cons → Type 0
ConsHasType s c = IsSome (cons_type s c)

-- ---- expressions

-- An expression has a type, and so has each of its parts. A call in an expression has one output, whose type it has.
abbrev mutual
  pub ExprHasType : Scope → Expr → Type 0
  ExprHasType s (constant at c) = HasType s (constant at c)
  ExprHasType s (variable at x) = HasType s (variable at x)
  ExprHasType s (last_of at x) = HasType s (last_of at x)
  ExprHasType s (one at op a) = ExprHasType s a × HasType s (one at op a)
  ExprHasType s (two at op a b) = ExprHasType s a × (ExprHasType s b × HasType s (two at op a b))
  ExprHasType s (choose at a b c) = ExprHasType s a × (ExprHasType s b × (ExprHasType s c × HasType s (choose at a b c)))
  ExprHasType s (pre at a) = ExprHasType s a × HasType s (pre at a)
  ExprHasType s (fby at a b) = ExprHasType s a × (ExprHasType s b × HasType s (fby at a b))
  ExprHasType s (arrow at a b) = ExprHasType s a × (ExprHasType s b × HasType s (arrow at a b))
  ExprHasType s (when_is at a c x) = ExprHasType s a × (ConsHasType s c × (NameHasType s x × HasType s (when_is at a c x)))
  ExprHasType s (merge at x ps) = NameHasType s x × (PartsHaveTypes s ps × HasType s (merge at x ps))
  ExprHasType s (call at f inlined es) = ExprsHaveTypes s es × HasType s (call at f inlined es)

  pub ExprsHaveTypes : Scope → Exprs → Type 0
  ExprsHaveTypes s no_expr = Unit {0}
  ExprsHaveTypes s (more_exprs e es) = ExprHasType s e × ExprsHaveTypes s es

  pub PartsHaveTypes : Scope → Parts → Type 0
  PartsHaveTypes s no_part = Unit {0}
  PartsHaveTypes s (more_parts c e ps) = ConsHasType s c × (ExprHasType s e × PartsHaveTypes s ps)

-- ---- declarations

abbrev pub TypeIsKnown : Scope → Ty → Type 0
TypeIsKnown s bool = Unit {0}
TypeIsKnown s int = Unit {0}
TypeIsKnown s (enum t) = IsSome (lookup s.types t)

abbrev pub FirstHasType : Scope → Option Const → Type 0
FirstHasType s None = Unit {0}
FirstHasType s (Some c) = IsSome (constant_type s c)

abbrev pub PathHasTypes : Scope → List (Cons × List ℕ) → Type 0
PathHasTypes s [] = Unit {0}
PathHasTypes s (step ∷ steps) = ConsHasType s step.0 × (NameHasType s step.1 × PathHasTypes s steps)

abbrev pub ClockHasTypes : Scope → Option (List (Cons × List ℕ)) → Type 0
ClockHasTypes s None = Unit {0}
ClockHasTypes s (Some path) = PathHasTypes s path

-- The types of declarations are known, and first values and clocks have types.
abbrev pub DeclsHaveTypes : Scope → List Decl → Type 0
DeclsHaveTypes s [] = Unit {0}
DeclsHaveTypes s (d ∷ ds) = (TypeIsKnown s d.ty × (FirstHasType s d.last × ClockHasTypes s d.clock)) × DeclsHaveTypes s ds

-- ---- equations

-- The names on the left of an equation are those of variables in scope.
abbrev pub LeftHasTypes : Scope → List (List ℕ × Span) → Type 0
LeftHasTypes s [] = Unit {0}
LeftHasTypes s (x ∷ xs) = NameHasType s x.0 × LeftHasTypes s xs

-- A call on the right has as many outputs as there are names on the left; its arguments have types. Another right side has a type.
abbrev pub RightHasTypes : Scope → List (List ℕ × Span) → Expr → Type 0
RightHasTypes s xs (call at f inlined es) =
    ExprsHaveTypes s es × IsSomeAnd (outputs_in (lookup s.nodes f) (types_in s es)) (λ ds. length xs ≡ length ds)
RightHasTypes s xs e = ExprHasType s e

abbrev pub TransitionsHaveTypes : Scope → List Trans → Type 0
TransitionsHaveTypes s [] = Unit {0}
TransitionsHaveTypes s (t ∷ ts) = ExprHasType s t.cond × TransitionsHaveTypes s ts

abbrev mutual
  pub BlockHasTypes : Scope → Block → Type 0
  BlockHasTypes s (block ds es) = DeclsHaveTypes (with_variables s ds) ds × EqnsHaveTypes (with_variables s ds) es

  pub EqnsHaveTypes : Scope → Eqns → Type 0
  EqnsHaveTypes s no_eqn = Unit {0}
  EqnsHaveTypes s (more_eqns e es) = EqnHasTypes s e × EqnsHaveTypes s es

  pub EqnHasTypes : Scope → Eqn → Type 0
  EqnHasTypes s (define at xs e) = LeftHasTypes s xs × RightHasTypes s xs e
  EqnHasTypes s (switch at e arms) = ExprHasType s e × ArmsHaveTypes s arms
  EqnHasTypes s (reset at b e) = BlockHasTypes s b × ExprHasType s e
  EqnHasTypes s (automaton at qs) = StatesHaveTypes s qs

  pub ArmsHaveTypes : Scope → Arms → Type 0
  ArmsHaveTypes s no_arm = Unit {0}
  ArmsHaveTypes s (more_arms c b at arms) = ConsHasType s c × (BlockHasTypes s b × ArmsHaveTypes s arms)

  -- The weak transitions of a state are read in its body, the strong ones outside.
  pub StatesHaveTypes : Scope → States → Type 0
  StatesHaveTypes s no_state = Unit {0}
  StatesHaveTypes s (more_states x b until unless at qs) =
      BlockHasTypes s b × (TransitionsHaveTypes (inside s b) until × (TransitionsHaveTypes s unless × StatesHaveTypes s qs))

-- ---- nodes and programs

abbrev pub ConditionHasType : Scope → Option Expr → Type 0
ConditionHasType s None = Unit {0}
ConditionHasType s (Some e) = ExprHasType s e

abbrev pub ContractHasTypes : Scope → Option Contract → Type 0
ContractHasTypes s None = Unit {0}
ContractHasTypes s (Some c) = BlockHasTypes s c.body × (ConditionHasType (inside s c.body) c.assume × ConditionHasType (inside s c.body) c.enforce)

abbrev pub BodyHasTypes : Scope → List Decl → Block → Type 0
BodyHasTypes s controls body = DeclsHaveTypes (with_variables s controls) controls × BlockHasTypes (with_variables s controls) body

abbrev pub NodeHasTypes : Scope → Node → Type 0
NodeHasTypes s n =
    DeclsHaveTypes (inside_node s n) n.inputs
    × (DeclsHaveTypes (inside_node s n) n.outputs
    × (ContractHasTypes (inside_node s n) n.contract × BodyHasTypes (inside_node s n) (controls_of n.contract) n.body))

abbrev pub ItemHasTypes : Scope → Item → Type 0
ItemHasTypes s (TypeItem t) = Unit {0}
ItemHasTypes s (NodeItem n) = NodeHasTypes s n

abbrev pub ItemsHaveTypes : Scope → List Item → Type 0
ItemsHaveTypes s [] = Unit {0}
ItemsHaveTypes s (item ∷ items) = ItemHasTypes s item × ItemsHaveTypes (behind s item) items

-- Each expression of the program has a type.
abbrev pub HaveTypes : List Item → Type 0
HaveTypes program = ItemsHaveTypes nothing program

-- Nothing lacks a type in a program whose names are well used and whose types agree.
abbrev pub TypedLaw : Type 0
TypedLaw = (program : List Item) → WellNamed program → WellTyped program → MergesHaveParts program → HaveTypes program
