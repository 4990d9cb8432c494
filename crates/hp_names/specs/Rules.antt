-- When the names of a program are well used: each is declared where it is used, and none is declared where it is in scope already.
-- There are four kinds of names, types, constructors, nodes and variables; states are known in their automaton alone.
use Rattle.std.specs.Prelude.{ℕ, List, [], ◌∷◌, Option, None, Some, Contains}
use Rattle.hp_base.specs.declared.ty.Ty.{Ty}
use Rattle.hp_base.specs.declared.ty.Ty.TheVariants as ty
use Rattle.hp_base.specs.declared.ty.Const.{Const}
use Rattle.hp_base.specs.declared.ty.Const.TheVariants as const
use Rattle.hp_tree.specs.declared.decl.Cons.{Cons}
use Rattle.hp_tree.specs.declared.decl.Cons.TheVariants as cons
use Rattle.hp_tree.specs.declared.block.Trans.{Trans}
use Rattle.hp_tree.specs.declared.program.Item.{Item}
use Rattle.hp_tree.specs.declared.program.Item.TheVariants.{TypeItem, NodeItem}
use Rattle.hp_tree.specs.Expressions.{Expr, constant, variable, last_of, one, two, choose, pre, fby, arrow, when_is, merge, call, Exprs, no_expr, more_exprs, Parts, no_part, more_parts}
use Rattle.hp_tree.specs.Blocks.{Decl, Block, block, Eqns, no_eqn, more_eqns, Eqn, define, switch, reset, automaton, Arms, no_arm, more_arms, States, no_state, more_states}
use Rattle.hp_tree.specs.Programs.{Contract, Node}
use Rattle.hp_names.specs.Names.{Placed, with_name, with_names, declared_names, state_names, names_at}
use Rattle.hp_tree.specs.Meaning.{controls_of}
use Rattle.hp_names.specs.Scopes.{Scope, nothing, with_variables, inside, inside_node, behind}

-- Names that are declared one after another: none is among the names that are known before it.
abbrev pub AreNew : List (List ℕ) → List Placed → Type 0
AreNew names [] = Unit {0}
AreNew names (x ∷ xs) = (Contains names x.0 → ⊥) × AreNew (with_name names x.0) xs

-- ---- expressions

abbrev pub ConstantIsNamed : Scope → Const → Type 0
ConstantIsNamed s (const.B b) = Unit {0}
ConstantIsNamed s (const.I n) = Unit {0}
ConstantIsNamed s (const.E c) = Contains s.constructors c

abbrev pub ConsIsNamed : Scope → Cons → Type 0
ConsIsNamed s cons.False = Unit {0}
ConsIsNamed s cons.True = Unit {0}
ConsIsNamed s (cons.Named c) = Contains s.constructors c

-- An expression in a scope: a name is that of a variable in scope, and under `last` of one that is declared so.
abbrev mutual
  pub ExprIsNamed : Scope → Expr → Type 0
  ExprIsNamed s (constant at c) = ConstantIsNamed s c
  ExprIsNamed s (variable at x) = Contains s.variables x
  ExprIsNamed s (last_of at x) = Contains s.lasts x
  ExprIsNamed s (one at op a) = ExprIsNamed s a
  ExprIsNamed s (two at op a b) = ExprIsNamed s a × ExprIsNamed s b
  ExprIsNamed s (choose at a b c) = ExprIsNamed s a × (ExprIsNamed s b × ExprIsNamed s c)
  ExprIsNamed s (pre at a) = ExprIsNamed s a
  ExprIsNamed s (fby at a b) = ExprIsNamed s a × ExprIsNamed s b
  ExprIsNamed s (arrow at a b) = ExprIsNamed s a × ExprIsNamed s b
  ExprIsNamed s (when_is at a c x) = ExprIsNamed s a × (ConsIsNamed s c × Contains s.variables x)
  ExprIsNamed s (merge at x ps) = Contains s.variables x × PartsAreNamed s ps
  ExprIsNamed s (call at f inlined es) = Contains s.nodes f × ExprsAreNamed s es

  pub ExprsAreNamed : Scope → Exprs → Type 0
  ExprsAreNamed s no_expr = Unit {0}
  ExprsAreNamed s (more_exprs e es) = ExprIsNamed s e × ExprsAreNamed s es

  pub PartsAreNamed : Scope → Parts → Type 0
  PartsAreNamed s no_part = Unit {0}
  PartsAreNamed s (more_parts c e ps) = ConsIsNamed s c × (ExprIsNamed s e × PartsAreNamed s ps)

-- ---- declarations

abbrev pub TyIsNamed : Scope → Ty → Type 0
TyIsNamed s ty.Bool = Unit {0}
TyIsNamed s ty.Int = Unit {0}
TyIsNamed s (ty.Enum t) = Contains s.types t

abbrev pub FirstIsNamed : Scope → Option Const → Type 0
FirstIsNamed s None = Unit {0}
FirstIsNamed s (Some c) = ConstantIsNamed s c

abbrev pub PathIsNamed : Scope → List (Cons × List ℕ) → Type 0
PathIsNamed s [] = Unit {0}
PathIsNamed s (step ∷ steps) = ConsIsNamed s step.0 × (Contains s.variables step.1 × PathIsNamed s steps)

abbrev pub ClockIsNamed : Scope → Option (List (Cons × List ℕ)) → Type 0
ClockIsNamed s None = Unit {0}
ClockIsNamed s (Some path) = PathIsNamed s path

-- The types, first values and clocks of declarations.
abbrev pub DeclsAreNamed : Scope → List Decl → Type 0
DeclsAreNamed s [] = Unit {0}
DeclsAreNamed s (d ∷ ds) = (TyIsNamed s d.ty × (FirstIsNamed s d.last × ClockIsNamed s d.clock)) × DeclsAreNamed s ds

-- Variables that are declared in a scope: they are new, and the clocks may use each of them.
abbrev pub VariablesAreNamed : Scope → List Decl → Type 0
VariablesAreNamed s ds = AreNew s.variables (declared_names ds) × DeclsAreNamed (with_variables s ds) ds

-- ---- equations

-- The names on the left of an equation.
abbrev pub LeftIsNamed : Scope → List Placed → Type 0
LeftIsNamed s [] = Unit {0}
LeftIsNamed s (x ∷ xs) = Contains s.variables x.0 × LeftIsNamed s xs

-- Transitions, among the states of their automaton.
abbrev pub TransitionsAreNamed : Scope → List (List ℕ) → List Trans → Type 0
TransitionsAreNamed s states [] = Unit {0}
TransitionsAreNamed s states (t ∷ ts) = ExprIsNamed s t.cond × (Contains states t.target × TransitionsAreNamed s states ts)

abbrev mutual
  -- A block in a scope: its variables are new there, and its equations see them.
  pub BlockIsNamed : Scope → Block → Type 0
  BlockIsNamed s (block ds es) = VariablesAreNamed s ds × EqnsAreNamed (with_variables s ds) es

  pub EqnsAreNamed : Scope → Eqns → Type 0
  EqnsAreNamed s no_eqn = Unit {0}
  EqnsAreNamed s (more_eqns e es) = EqnIsNamed s e × EqnsAreNamed s es

  pub EqnIsNamed : Scope → Eqn → Type 0
  EqnIsNamed s (define at xs e) = LeftIsNamed s xs × ExprIsNamed s e
  EqnIsNamed s (switch at e arms) = ExprIsNamed s e × ArmsAreNamed s arms
  EqnIsNamed s (reset at b e) = BlockIsNamed s b × ExprIsNamed s e
  EqnIsNamed s (automaton at qs) = AreNew [] (state_names qs) × StatesAreNamed s (with_names [] (state_names qs)) qs

  pub ArmsAreNamed : Scope → Arms → Type 0
  ArmsAreNamed s no_arm = Unit {0}
  ArmsAreNamed s (more_arms c b at arms) = ConsIsNamed s c × (BlockIsNamed s b × ArmsAreNamed s arms)

  -- The weak transitions of a state are read in its body, the strong ones outside.
  pub StatesAreNamed : Scope → List (List ℕ) → States → Type 0
  StatesAreNamed s states no_state = Unit {0}
  StatesAreNamed s states (more_states x b until unless at qs) =
      BlockIsNamed s b
      × (TransitionsAreNamed (inside s b) states until × (TransitionsAreNamed s states unless × StatesAreNamed s states qs))

-- ---- nodes and programs

abbrev pub ConditionIsNamed : Scope → Option Expr → Type 0
ConditionIsNamed s None = Unit {0}
ConditionIsNamed s (Some e) = ExprIsNamed s e

-- A contract sees the inputs and outputs of its node, and its own variables.
abbrev pub ContractIsNamed : Scope → Option Contract → Type 0
ContractIsNamed s None = Unit {0}
ContractIsNamed s (Some c) =
    BlockIsNamed s c.body × (ConditionIsNamed (inside s c.body) c.assume × ConditionIsNamed (inside s c.body) c.enforce)

-- The body of a node sees its inputs, outputs and controllable variables.
abbrev pub BodyIsNamed : Scope → List Decl → Block → Type 0
BodyIsNamed s controls body = VariablesAreNamed s controls × BlockIsNamed (with_variables s controls) body

abbrev pub NodeIsNamed : Scope → Node → Type 0
NodeIsNamed s n =
    AreNew s.variables (declared_names n.inputs)
    × (AreNew (with_variables s n.inputs).variables (declared_names n.outputs)
    × (DeclsAreNamed (inside_node s n) n.inputs
    × (DeclsAreNamed (inside_node s n) n.outputs
    × (ContractIsNamed (inside_node s n) n.contract × BodyIsNamed (inside_node s n) (controls_of n.contract) n.body))))

-- A node is not known in itself.
abbrev pub ItemIsNamed : Scope → Item → Type 0
ItemIsNamed s (TypeItem t) = (Contains s.types t.name → ⊥) × AreNew s.constructors (names_at t.span t.cons)
ItemIsNamed s (NodeItem n) = (Contains s.nodes n.name → ⊥) × NodeIsNamed s n

abbrev pub ItemsAreNamed : Scope → List Item → Type 0
ItemsAreNamed s [] = Unit {0}
ItemsAreNamed s (item ∷ items) = ItemIsNamed s item × ItemsAreNamed (behind s item) items

-- Each name of the program has its declaration, and one alone.
abbrev pub WellNamed : List Item → Type 0
WellNamed program = ItemsAreNamed nothing program
