-- When the types of a program agree. Nothing is asked of what has no type: an expression with a wrong part is not tested itself.
use Rattle.std.specs.Prelude.{◌≡◌, ℕ, true, List, [], ◌∷◌, Option, None, Some, length}
use Rattle.hp_base.specs.declared.span.Span.{Span}
use Rattle.hp_tree.specs.declared.block.Trans.{Trans}
use Rattle.hp_base.specs.declared.ty.Ty.{Ty}
use Rattle.hp_base.specs.declared.ty.Ty.TheVariants.{Bool as bool, Int as int, Enum as enum}
use Rattle.hp_base.specs.declared.ty.Const.{Const}
use Rattle.hp_tree.specs.declared.decl.Cons.{Cons}
use Rattle.hp_tree.specs.declared.program.Item.{Item}
use Rattle.hp_tree.specs.declared.program.Item.TheVariants.{TypeItem, NodeItem}
use Rattle.hp_tree.specs.Expressions.{Expr, constant, variable, last_of, one, two, choose, pre, fby, arrow, when_is, merge, call, Exprs, no_expr, more_exprs, Parts, no_part, more_parts, list_of}
use Rattle.hp_tree.specs.Blocks.{Decl, Block, block, Eqns, no_eqn, more_eqns, Eqn, define, switch, reset, automaton, Arms, no_arm, more_arms, States, no_state, more_states}
use Rattle.hp_tree.specs.Programs.{Contract, Node}
use Rattle.hp_base.specs.Known.Known.{lookup}
use Rattle.hp_tree.specs.Meaning.{controls_of}
use Rattle.hp_typing.specs.Scopes.{Scope, nothing, with_variables, inside, inside_node, behind}
use Rattle.hp_typing.specs.Types.{type_of, types_in, outputs_in, all_typed, constant_type, cons_type, type_of_one, operand}

-- The type that is found is the one that is wanted, where there are both.
abbrev pub Fits : Option Ty → Option Ty → Type 0
Fits None found = Unit {0}
Fits (Some t) None = Unit {0}
Fits (Some t) (Some u) = t ≡ u

-- What a `switch` or a `merge` is over is no integer.
abbrev pub Chooses : Option Ty → Type 0
Chooses None = Unit {0}
Chooses (Some bool) = Unit {0}
Chooses (Some (enum t)) = Unit {0}
Chooses (Some int) = ⊥

-- ---- expressions

-- Each argument of a call is of the type of its input.
abbrev pub PairsFit : Scope → List Decl → Exprs → Type 0
PairsFit s [] es = Unit {0}
PairsFit s (d ∷ ds) no_expr = Unit {0}
PairsFit s (d ∷ ds) (more_exprs e es) = Fits (Some d.ty) (type_of s e) × PairsFit s ds es

-- The arguments of a call, if all have types, are as many as the inputs, and of their types.
abbrev pub ArgsFit : Scope → Option Node → Exprs → Type 0
ArgsFit s None es = Unit {0}
ArgsFit s (Some n) es = all_typed (types_in s es) ≡ true → (length n.inputs ≡ length (list_of es)) × PairsFit s n.inputs es

-- A call has so many outputs.
abbrev pub AreOutputs : ℕ → Option (List Decl) → Type 0
AreOutputs n None = Unit {0}
AreOutputs n (Some ds) = n ≡ length ds

abbrev mutual
  pub ExprIsTyped : Scope → Expr → Type 0
  ExprIsTyped s (constant at c) = Unit {0}
  ExprIsTyped s (variable at x) = Unit {0}
  ExprIsTyped s (last_of at x) = Unit {0}
  ExprIsTyped s (one at op a) = ExprIsTyped s a × Fits (Some (type_of_one op)) (type_of s a)
  ExprIsTyped s (two at op a b) =
      ExprIsTyped s a × (ExprIsTyped s b × (Fits (operand op (type_of s a)) (type_of s a) × Fits (operand op (type_of s a)) (type_of s b)))
  ExprIsTyped s (choose at a b c) =
      ExprIsTyped s a × (ExprIsTyped s b × (ExprIsTyped s c × (Fits (Some bool) (type_of s a) × Fits (type_of s b) (type_of s c))))
  ExprIsTyped s (pre at a) = ExprIsTyped s a
  ExprIsTyped s (fby at a b) = ExprIsTyped s a × (ExprIsTyped s b × Fits (type_of s a) (type_of s b))
  ExprIsTyped s (arrow at a b) = ExprIsTyped s a × (ExprIsTyped s b × Fits (type_of s a) (type_of s b))
  ExprIsTyped s (when_is at a c x) = ExprIsTyped s a × Fits (lookup s.variables x) (cons_type s c)
  ExprIsTyped s (merge at x ps) = Chooses (lookup s.variables x) × OperandsAreTyped s (lookup s.variables x) ps
  ExprIsTyped s (call at f inlined es) =
      (ExprsAreTyped s es × ArgsFit s (lookup s.nodes f) es) × AreOutputs 1 (outputs_in (lookup s.nodes f) (types_in s es))

  pub ExprsAreTyped : Scope → Exprs → Type 0
  ExprsAreTyped s no_expr = Unit {0}
  ExprsAreTyped s (more_exprs e es) = ExprIsTyped s e × ExprsAreTyped s es

  pub OperandsAreTyped : Scope → Option Ty → Parts → Type 0
  OperandsAreTyped s name no_part = Unit {0}
  OperandsAreTyped s name (more_parts c e ps) = Fits name (cons_type s c) × (ExprIsTyped s e × PartsAreTyped s name (type_of s e) ps)

  -- Constructors are of the type of the name, operands of the type of the first.
  pub PartsAreTyped : Scope → Option Ty → Option Ty → Parts → Type 0
  PartsAreTyped s name first no_part = Unit {0}
  PartsAreTyped s name first (more_parts c e ps) =
      Fits name (cons_type s c) × (ExprIsTyped s e × (Fits first (type_of s e) × PartsAreTyped s name first ps))

-- A condition is a `bool`.
abbrev pub TestIsTyped : Scope → Expr → Type 0
TestIsTyped s e = ExprIsTyped s e × Fits (Some bool) (type_of s e)

-- ---- declarations

abbrev pub FirstIsTyped : Scope → Ty → Option Const → Type 0
FirstIsTyped s t None = Unit {0}
FirstIsTyped s t (Some c) = Fits (Some t) (constant_type s c)

abbrev pub PathIsTyped : Scope → List (Cons × List ℕ) → Type 0
PathIsTyped s [] = Unit {0}
PathIsTyped s (step ∷ steps) = Fits (lookup s.variables step.1) (cons_type s step.0) × PathIsTyped s steps

abbrev pub ClockIsTyped : Scope → Option (List (Cons × List ℕ)) → Type 0
ClockIsTyped s None = Unit {0}
ClockIsTyped s (Some path) = PathIsTyped s path

abbrev pub DeclsAreTyped : Scope → List Decl → Type 0
DeclsAreTyped s [] = Unit {0}
DeclsAreTyped s (d ∷ ds) = (FirstIsTyped s d.ty d.last × ClockIsTyped s d.clock) × DeclsAreTyped s ds

-- ---- equations

-- Each output of a call is of the type of its name.
abbrev pub NamesFit : Scope → List (List ℕ × Span) → List Decl → Type 0
NamesFit s [] ds = Unit {0}
NamesFit s (x ∷ xs) [] = Unit {0}
NamesFit s (x ∷ xs) (d ∷ ds) = Fits (lookup s.variables x.0) (Some d.ty) × NamesFit s xs ds

abbrev pub RowFits : Scope → List (List ℕ × Span) → Option (List Decl) → Type 0
RowFits s xs None = Unit {0}
RowFits s xs (Some ds) = (length xs ≡ length ds) × NamesFit s xs ds

-- Another right side is that of one name, and of its type.
abbrev pub SingleFits : Scope → List (List ℕ × Span) → Option Ty → Type 0
SingleFits s xs None = Unit {0}
SingleFits s [] (Some t) = ⊥
SingleFits s (x ∷ []) (Some t) = Fits (lookup s.variables x.0) (Some t)
SingleFits s (x ∷ y ∷ xs) (Some t) = ⊥

abbrev pub RightIsTyped : Scope → List (List ℕ × Span) → Expr → Type 0
RightIsTyped s xs (call at f inlined es) =
    (ExprsAreTyped s es × ArgsFit s (lookup s.nodes f) es) × RowFits s xs (outputs_in (lookup s.nodes f) (types_in s es))
RightIsTyped s xs e = ExprIsTyped s e × SingleFits s xs (type_of s e)

abbrev pub TransitionsAreTyped : Scope → List Trans → Type 0
TransitionsAreTyped s [] = Unit {0}
TransitionsAreTyped s (t ∷ ts) = TestIsTyped s t.cond × TransitionsAreTyped s ts

abbrev mutual
  pub BlockIsTyped : Scope → Block → Type 0
  BlockIsTyped s (block ds es) = DeclsAreTyped (with_variables s ds) ds × EqnsAreTyped (with_variables s ds) es

  pub EqnsAreTyped : Scope → Eqns → Type 0
  EqnsAreTyped s no_eqn = Unit {0}
  EqnsAreTyped s (more_eqns e es) = EqnIsTyped s e × EqnsAreTyped s es

  pub EqnIsTyped : Scope → Eqn → Type 0
  EqnIsTyped s (define at xs e) = RightIsTyped s xs e
  EqnIsTyped s (switch at e arms) = ExprIsTyped s e × (Chooses (type_of s e) × ArmsAreTyped s (type_of s e) arms)
  EqnIsTyped s (reset at b e) = BlockIsTyped s b × TestIsTyped s e
  EqnIsTyped s (automaton at qs) = StatesAreTyped s qs

  -- The constructor of an arm is of the type of the condition.
  pub ArmsAreTyped : Scope → Option Ty → Arms → Type 0
  ArmsAreTyped s cond no_arm = Unit {0}
  ArmsAreTyped s cond (more_arms c b at arms) = Fits cond (cons_type s c) × (BlockIsTyped s b × ArmsAreTyped s cond arms)

  pub StatesAreTyped : Scope → States → Type 0
  StatesAreTyped s no_state = Unit {0}
  StatesAreTyped s (more_states x b until unless at qs) =
      BlockIsTyped s b × (TransitionsAreTyped (inside s b) until × (TransitionsAreTyped s unless × StatesAreTyped s qs))

-- ---- nodes and programs

abbrev pub ConditionIsTyped : Scope → Option Expr → Type 0
ConditionIsTyped s None = Unit {0}
ConditionIsTyped s (Some e) = TestIsTyped s e

abbrev pub ContractIsTyped : Scope → Option Contract → Type 0
ContractIsTyped s None = Unit {0}
ContractIsTyped s (Some c) =
    BlockIsTyped s c.body × (ConditionIsTyped (inside s c.body) c.assume × ConditionIsTyped (inside s c.body) c.enforce)

abbrev pub BodyIsTyped : Scope → List Decl → Block → Type 0
BodyIsTyped s controls body = DeclsAreTyped (with_variables s controls) controls × BlockIsTyped (with_variables s controls) body

abbrev pub NodeIsTyped : Scope → Node → Type 0
NodeIsTyped s n =
    DeclsAreTyped (inside_node s n) n.inputs
    × (DeclsAreTyped (inside_node s n) n.outputs
    × (ContractIsTyped (inside_node s n) n.contract × BodyIsTyped (inside_node s n) (controls_of n.contract) n.body))

abbrev pub ItemIsTyped : Scope → Item → Type 0
ItemIsTyped s (TypeItem t) = Unit {0}
ItemIsTyped s (NodeItem n) = NodeIsTyped s n

abbrev pub ItemsAreTyped : Scope → List Item → Type 0
ItemsAreTyped s [] = Unit {0}
ItemsAreTyped s (item ∷ items) = ItemIsTyped s item × ItemsAreTyped (behind s item) items

-- The types of the program agree.
abbrev pub WellTyped : List Item → Type 0
WellTyped program = ItemsAreTyped nothing program
