-- Programs whose expressions have types and whose names are defined, as one judgement over the tree: what the values at an instant rest on. Classes and clocks are judged apart.
use Rattle.std.specs.Prelude.{◌≡◌, ◌⊎◌, ⊤, ℕ, Bool, true, false, ◌||◌, IsTrue, IsFalse, if◌then◌else◌, List, [], ◌∷◌, Option, None, Some}
use Rattle.std.specs.List.{Contains}
use Rattle.std.specs.Str.{bytes_eq}
use Rattle.hp_base.specs.declared.span.Span.{Span}
use Rattle.hp_base.specs.declared.ty.Ty.{Ty}
use Rattle.hp_base.specs.declared.ty.Ty.TheVariants as ty
use Rattle.hp_base.specs.declared.ty.Const.{Const}
use Rattle.hp_tree.specs.declared.decl.Cons.{Cons}
use Rattle.hp_tree.specs.declared.decl.Cons.TheVariants as cons
use Rattle.hp_tree.specs.declared.block.Trans.{Trans}
use Rattle.hp_tree.specs.Expressions.{Expr, constant, variable, last_of, one, two, choose, pre, fby, arrow, when_is, merge, call, Exprs, no_expr, more_exprs, Parts, no_part, more_parts}
use Rattle.hp_tree.specs.Blocks.{Decl, Block, block, Eqns, no_eqn, more_eqns, Eqn, define, switch, reset, automaton, Arms, no_arm, more_arms, States, no_state, more_states}
use Rattle.hp_tree.specs.Programs.{TypeDecl, Contract, Node}
use Rattle.hp_tree.specs.Operators.{constant_of}
use Rattle.hp_tree.specs.Values.{constructors_of, IsOf}
use Rattle.hp_tree.specs.Meaning.{declares, defines, some_defines, block_defines, controls_of}
use Rattle.hp_base.specs.Known.Known.{lookup}
use Rattle.hp_typing.specs.Scopes.{with_variables, inside, inside_node}
use Rattle.hp_typing.specs.Types.{type_of, types_in, outputs_in, constant_type}
use Rattle.hp_typing.specs.Definitions.{same_cons}
use Rattle.law_judged.specs.Typed.Scopes.{Scope}

-- ---- names that have a last value

abbrev pub Lasts : Type 0
Lasts = List ℕ → Bool

abbrev pub no_lasts : Lasts
no_lasts x = false

abbrev pub lasts_in : List Decl → Lasts → Lasts
lasts_in [] out x = out x
lasts_in (d ∷ ds) out x = if bytes_eq d.name x then (elim d.last [ None ↦ out x | Some c ↦ true ]) else lasts_in ds out x

abbrev pub lasts_of : Block → Lasts → Lasts
lasts_of (block ds es) out = lasts_in ds out

-- ---- constructors

abbrev pub is_named : List Cons → Cons → Bool
is_named [] c = false
is_named (d ∷ given) c = same_cons c d || is_named given c

-- Each constructor of a type is named; the type is no integer.
abbrev pub Covers : List TypeDecl → Ty → List Cons → Type 0
Covers types ty.Bool given = IsTrue (is_named given cons.False) × IsTrue (is_named given cons.True)
Covers types ty.Int given = ⊥
Covers types (ty.Enum t) given = (c : List ℕ) → Contains (constructors_of types t) c → IsTrue (is_named given (cons.Named c))

abbrev pub CoversType : List TypeDecl → Option Ty → List Cons → Type 0
CoversType types None given = ⊥
CoversType types (Some t) given = Covers types t given

abbrev pub of_parts : Parts → List Cons
of_parts no_part = []
of_parts (more_parts c e ps) = c ∷ of_parts ps

abbrev pub of_arms : Arms → List Cons
of_arms no_arm = []
of_arms (more_arms c b s arms) = c ∷ of_arms arms

-- ---- expressions

-- A constant is of the type that it has in the scope.
abbrev pub ConstantIs : List TypeDecl → Scope → Const → Type 0
ConstantIs types s c = (t : Ty) → constant_type s c ≡ Some t → IsOf types t (constant_of types c)

-- the names on a left side have the types of some outputs, or one type
abbrev pub LeftsAre : Scope → List (List ℕ × Span) → List Decl → Type 0
LeftsAre s [] [] = ⊤
LeftsAre s (y ∷ ys) (d ∷ ds) = (lookup s.variables y.0 ≡ Some d.ty) × LeftsAre s ys ds
LeftsAre s ys ds = ⊥

abbrev pub LeftsHave : Scope → List (List ℕ × Span) → Ty → Type 0
LeftsHave s [] t = ⊤
LeftsHave s (y ∷ ys) t = (lookup s.variables y.0 ≡ Some t) × LeftsHave s ys t

-- the scope of a node's body, which sees its controllable variables too
abbrev pub body_scope : Scope → Node → Scope
body_scope s n = with_variables (inside_node s n) (controls_of n.contract)

-- `among` gives the nodes declared before
module _ (types : List TypeDecl) (among : List ℕ → Option Node) where
  module _ (s : Scope) (lasts : Lasts) where
    -- A constant is of its type, a `merge` names each constructor, and `last x` is read where x has a last value.
    abbrev mutual
      pub ExprSound : Expr → Type 0
      ExprSound (constant at c) = ConstantIs types s c
      ExprSound (variable at x) = ⊤
      ExprSound (last_of at x) = IsTrue (lasts x)
      ExprSound (one at o a) = ExprSound a
      ExprSound (two at o a b) = ExprSound a × ExprSound b
      ExprSound (choose at a b c) = ExprSound a × (ExprSound b × ExprSound c)
      ExprSound (pre at a) = ExprSound a
      ExprSound (fby at a b) = ExprSound a × ExprSound b
      ExprSound (arrow at a b) = ExprSound a × ExprSound b
      ExprSound (when_is at a c x) = ExprSound a
      ExprSound (merge at x ps) = CoversType types (lookup s.variables x) (of_parts ps) × PartsSound ps
      ExprSound (call at f i es) = (lookup s.nodes f ≡ among f) × ExprsSound es

      pub ExprsSound : Exprs → Type 0
      ExprsSound no_expr = ⊤
      ExprsSound (more_exprs e es) = ExprSound e × ExprsSound es

      pub PartsSound : Parts → Type 0
      PartsSound no_part = ⊤
      PartsSound (more_parts c e ps) = ExprSound e × PartsSound ps

    -- The right side of an equation for some names.
    abbrev pub RightSound : List (List ℕ × Span) → Expr → Type 0
    RightSound ys (call at f i es) = ExprSound (call at f i es) × ((outs : List Decl) × ((outputs_in (lookup s.nodes f) (types_in s es) ≡ Some outs) × LeftsAre s ys outs))
    RightSound ys e = ExprSound e × ((t : Ty) × ((type_of s e ≡ Some t) × LeftsHave s ys t))

    -- A condition is a `bool`.
    abbrev pub TestSound : Expr → Type 0
    TestSound e = ExprSound e × (type_of s e ≡ Some ty.Bool)

    abbrev pub TestsSound : List Trans → Type 0
    TestsSound [] = ⊤
    TestsSound (t ∷ ts) = TestSound t.cond × TestsSound ts

  -- ---- declarations: a name has its type in the scope, an equation, and where it is `last` a constant of its type

  abbrev pub FirstSound : Ty → Option Const → Type 0
  FirstSound t None = ⊤
  FirstSound t (Some c) = IsOf types t (constant_of types c)

  abbrev pub DeclsSound : Scope → Eqns → List Decl → Type 0
  DeclsSound s es [] = ⊤
  DeclsSound s es (d ∷ ds) = ((lookup s.variables d.name ≡ Some d.ty) × (IsTrue (some_defines es d.name) × FirstSound d.ty d.last)) × DeclsSound s es ds

  -- ---- equations

  -- A name that a block of a control equation does not define, where the equation does, has a last value.
  abbrev pub Completes : Eqn → Lasts → Block → Type 0
  Completes e lasts b = (x : List ℕ) → IsTrue (defines e x) → IsTrue (block_defines b x) ⊎ IsTrue (lasts x)

  -- A name that a block defines and does not declare has a type outside.
  abbrev pub OthersKnown : Block → Scope → Type 0
  OthersKnown (block ds es) s = (x : List ℕ) → IsTrue (some_defines es x) → IsFalse (declares ds x) → (t : Ty) × (lookup s.variables x ≡ Some t)

  abbrev mutual
    pub BlockSound : Scope → Lasts → Block → Type 0
    BlockSound s lasts (block ds es) =
        DeclsSound (with_variables s ds) es ds × (OthersKnown (block ds es) s × EqnsSound (with_variables s ds) (lasts_in ds lasts) es)

    pub EqnsSound : Scope → Lasts → Eqns → Type 0
    EqnsSound s lasts no_eqn = ⊤
    EqnsSound s lasts (more_eqns e es) = EqnSound s lasts e × EqnsSound s lasts es

    pub EqnSound : Scope → Lasts → Eqn → Type 0
    EqnSound s lasts (define at ys e) = RightSound s lasts ys e
    EqnSound s lasts (switch at e arms) =
        ExprSound s lasts e × (((t : Ty) × ((type_of s e ≡ Some t) × Covers types t (of_arms arms))) × ArmsSound (switch at e arms) s lasts arms)
    EqnSound s lasts (reset at b e) = TestSound s lasts e × BlockSound s lasts b
    EqnSound s lasts (automaton at ss) = StatesSound (automaton at ss) s lasts ss

    pub ArmsSound : Eqn → Scope → Lasts → Arms → Type 0
    ArmsSound e s lasts no_arm = ⊤
    ArmsSound e s lasts (more_arms c b at arms) = Completes e lasts b × (BlockSound s lasts b × ArmsSound e s lasts arms)

    -- Strong conditions are read outside of the automaton, weak ones in the body of their state.
    pub StatesSound : Eqn → Scope → Lasts → States → Type 0
    StatesSound e s lasts no_state = ⊤
    StatesSound e s lasts (more_states f b until unless at ss) =
        Completes e lasts b
        × (BlockSound s lasts b × (TestsSound (inside s b) (lasts_of b lasts) until × (TestsSound s lasts unless × StatesSound e s lasts ss)))

  -- ---- nodes

  -- Names have their types in the scope.
  abbrev pub HaveOwnTypes : Scope → List Decl → Type 0
  HaveOwnTypes s [] = ⊤
  HaveOwnTypes s (d ∷ ds) = (lookup s.variables d.name ≡ Some d.ty) × HaveOwnTypes s ds

  abbrev pub HaveEquations : Block → List Decl → Type 0
  HaveEquations b [] = ⊤
  HaveEquations b (d ∷ ds) = (IsTrue (block_defines b d.name) × FirstSound d.ty d.last) × HaveEquations b ds

  abbrev pub ToldSound : Scope → Lasts → Option Expr → Type 0
  ToldSound s lasts None = ⊤
  ToldSound s lasts (Some e) = TestSound s lasts e

  abbrev pub ContractSound : Scope → Lasts → Option Contract → Type 0
  ContractSound s lasts None = ⊤
  ContractSound s lasts (Some c) =
      BlockSound s lasts c.body
      × (ToldSound (inside s c.body) (lasts_of c.body lasts) c.assume × ToldSound (inside s c.body) (lasts_of c.body lasts) c.enforce)

  abbrev pub NodeSound : Scope → Node → Type 0
  NodeSound s n =
      (HaveOwnTypes (inside_node s n) n.inputs × HaveOwnTypes (inside_node s n) n.outputs)
      × ((HaveOwnTypes (body_scope s n) n.inputs × HaveOwnTypes (body_scope s n) n.outputs)
      × (HaveOwnTypes (body_scope s n) (controls_of n.contract)
      × (HaveEquations n.body n.outputs
      × (BlockSound (body_scope s n) (lasts_in n.outputs no_lasts) n.body × ContractSound (inside_node s n) (lasts_in n.outputs no_lasts) n.contract))))

-- ---- what the grammar gives

-- Conditions of transitions have no memory, and no call, `when` or `merge`: the grammar has none there.
abbrev pub PlainExpr : Expr → Type 0
PlainExpr (constant at c) = ⊤
PlainExpr (variable at x) = ⊤
PlainExpr (last_of at x) = ⊤
PlainExpr (one at o a) = PlainExpr a
PlainExpr (two at o a b) = PlainExpr a × PlainExpr b
PlainExpr (choose at a b c) = PlainExpr a × (PlainExpr b × PlainExpr c)
PlainExpr e = ⊥

abbrev pub PlainTests : List Trans → Type 0
PlainTests [] = ⊤
PlainTests (t ∷ ts) = PlainExpr t.cond × PlainTests ts

abbrev pub HasState : States → Type 0
HasState no_state = ⊥
HasState (more_states f b until unless at ss) = ⊤

-- An automaton has a state, and its weak conditions are plain.
abbrev mutual
  pub IsPlain : Block → Type 0
  IsPlain (block ds es) = AllPlain es

  pub AllPlain : Eqns → Type 0
  AllPlain no_eqn = ⊤
  AllPlain (more_eqns e es) = OnePlain e × AllPlain es

  pub OnePlain : Eqn → Type 0
  OnePlain (define s ys e) = ⊤
  OnePlain (switch s e arms) = ArmsPlain arms
  OnePlain (reset s b e) = IsPlain b
  OnePlain (automaton s ss) = HasState ss × StatesPlain ss

  pub ArmsPlain : Arms → Type 0
  ArmsPlain no_arm = ⊤
  ArmsPlain (more_arms c b s arms) = IsPlain b × ArmsPlain arms

  pub StatesPlain : States → Type 0
  StatesPlain no_state = ⊤
  StatesPlain (more_states f b until unless s ss) = IsPlain b × (PlainTests until × StatesPlain ss)

abbrev pub PlainContract : Option Contract → Type 0
PlainContract None = ⊤
PlainContract (Some c) = IsPlain c.body
