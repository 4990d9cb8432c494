-- Wires that are typed: each occurrence in a node has a value of its type. No value is absent or Nil, and an integer is its mark.
-- Source: own.
use Rattle.std.specs.Prelude.{ℕ, ◌≡◌, ◌<◌, ⊤, Bool, IsTrue, List, [], ◌∷◌, Option, None, Some}
use Rattle.hp_base.specs.declared.ty.Ty.{Ty}
use Rattle.hp_base.specs.declared.ty.Ty.TheVariants as ty
use Rattle.hp_base.specs.declared.value.Value.{Value}
use Rattle.hp_base.specs.declared.value.Value.TheVariants.{B, Star}
use Rattle.hp_tree.specs.declared.block.Trans.{Trans}
use Rattle.hp_tree.specs.Expressions.{Expr, constant, variable, last_of, one, two, choose, pre, fby, arrow, when_is, merge, call, Exprs, no_expr, more_exprs, Parts, no_part, more_parts}
use Rattle.hp_tree.specs.Blocks.{Decl, Block, block, Eqns, no_eqn, more_eqns, Eqn, define, switch, reset, automaton, Arms, no_arm, more_arms, States, no_state, more_states}
use Rattle.hp_tree.specs.Programs.{TypeDecl, Contract, Node}
use Rattle.hp_tree.specs.Instant.{Body, Observer, Assume, Enforce, Named, Equations, Head, Tail, Right, Test, Arms as ArmsOf, States as StatesOf, Until, Unless, Active, Next, Pending, First, Second, Third, Args, Instance, Instant, part, top}
use Rattle.hp_tree.specs.Meaning.{some_defines, state_word}
use Rattle.hp_tree.specs.Values.{IsOf}
use Rattle.hp_base.specs.Known.Known.{lookup}
use Rattle.hp_typing.specs.Scopes.{with_variables, inside, inside_node}
use Rattle.law_judged.specs.Typed.Scopes.{Scope}
use Rattle.law_values.specs.Valued.Judged.{body_scope}
use Rattle.law_values.specs.Valued.Fitting.{value_type, count}

-- a value on a wire is of a type
abbrev pub IsWire : List TypeDecl → Ty → Value → Type 0
IsWire types ty.Bool v = IsOf types ty.Bool v
IsWire types ty.Int v = v ≡ Star
IsWire types (ty.Enum t) v = IsOf types (ty.Enum t) v

-- of a type, where there is one
abbrev pub HasWire : List TypeDecl → Option Ty → Value → Type 0
HasWire types None v = ⊤
HasWire types (Some t) v = IsWire types t v

-- one value for each declaration, of its type
abbrev pub AreWires : List TypeDecl → List Decl → List Value → Type 0
AreWires types [] [] = ⊤
AreWires types (d ∷ ds) (v ∷ vs) = IsWire types d.ty v × AreWires types ds vs
AreWires types ds vs = ⊥

-- a truth value, and the number of a state
abbrev pub IsFlag : Value → Type 0
IsFlag v = (b : Bool) × (v ≡ B b)

abbrev pub IsStateOf : States → Value → Type 0
IsStateOf ss v = (k : ℕ) × ((v ≡ state_word k) × (k < count ss))

-- the value of each output
abbrev pub OutputsTyped : List TypeDecl → List Decl → Instant → Type 0
OutputsTyped types [] i = ⊤
OutputsTyped types (d ∷ ds) i = IsWire types d.ty (i (Named d.name ∷ [])) × OutputsTyped types ds i

-- `callee f i` says that the wires i of an instance of the node f are typed.
module _ (types : List TypeDecl) (callee : List ℕ → Instant → Type 0) where
  module _ (s : Scope) where
    abbrev pub TopTyped : Expr → Instant → Type 0
    TopTyped e i = HasWire types (value_type s e) (top i)

    -- each occurrence in an expression
    abbrev mutual
      pub ExprTyped : Expr → Instant → Type 0
      ExprTyped (constant at c) i = TopTyped (constant at c) i
      ExprTyped (variable at x) i = TopTyped (variable at x) i
      ExprTyped (last_of at x) i = TopTyped (last_of at x) i
      ExprTyped (one at o a) i = TopTyped (one at o a) i × ExprTyped a (part First i)
      ExprTyped (two at o a b) i = TopTyped (two at o a b) i × (ExprTyped a (part First i) × ExprTyped b (part Second i))
      ExprTyped (choose at a b c) i = TopTyped (choose at a b c) i × (ExprTyped a (part First i) × (ExprTyped b (part Second i) × ExprTyped c (part Third i)))
      ExprTyped (pre at a) i = TopTyped (pre at a) i × ExprTyped a (part First i)
      ExprTyped (fby at a b) i = TopTyped (fby at a b) i × (ExprTyped a (part First i) × ExprTyped b (part Second i))
      ExprTyped (arrow at a b) i = TopTyped (arrow at a b) i × (ExprTyped a (part First i) × ExprTyped b (part Second i))
      ExprTyped (when_is at a c x) i = TopTyped (when_is at a c x) i × ExprTyped a (part First i)
      ExprTyped (merge at x ps) i = TopTyped (merge at x ps) i × PartsTyped ps (part Args i)
      ExprTyped (call at f inlined es) i = TopTyped (call at f inlined es) i × (ExprsTyped es (part Args i) × callee f (part Instance i))

      pub ExprsTyped : Exprs → Instant → Type 0
      ExprsTyped no_expr i = ⊤
      ExprsTyped (more_exprs e es) i = ExprTyped e (part Head i) × ExprsTyped es (part Tail i)

      pub PartsTyped : Parts → Instant → Type 0
      PartsTyped no_part i = ⊤
      PartsTyped (more_parts c e ps) i = ExprTyped e (part Head i) × PartsTyped ps (part Tail i)

    abbrev pub TestsTyped : List Trans → Instant → Type 0
    TestsTyped [] i = ⊤
    TestsTyped (t ∷ ts) i = ExprTyped t.cond (part Head i) × TestsTyped ts (part Tail i)

    -- the names that a block defines
    abbrev pub NamesTyped : Eqns → Instant → Type 0
    NamesTyped es i = (x : List ℕ) → IsTrue (some_defines es x) → HasWire types (lookup s.variables x) (i (Named x ∷ []))

  -- a block: its names and its equations, also in what is not taken
  abbrev mutual
    pub BlockTyped : Scope → Block → Instant → Type 0
    BlockTyped s (block ds es) i = NamesTyped (with_variables s ds) es i × EqnsTyped (with_variables s ds) es (part Equations i)

    pub EqnsTyped : Scope → Eqns → Instant → Type 0
    EqnsTyped s no_eqn i = ⊤
    EqnsTyped s (more_eqns e es) i = EqnTyped s e (part Head i) × EqnsTyped s es (part Tail i)

    pub EqnTyped : Scope → Eqn → Instant → Type 0
    EqnTyped s (define at ys e) i = ExprTyped s e (part Right i)
    EqnTyped s (switch at e arms) i = ExprTyped s e (part Test i) × ArmsTyped s arms (part ArmsOf i)
    EqnTyped s (reset at b e) i = ExprTyped s e (part Test i) × BlockTyped s b (part Body i)
    EqnTyped s (automaton at ss) i =
        IsStateOf ss (i (Active ∷ [])) × (IsStateOf ss (i (Next ∷ [])) × (IsFlag (i (Pending ∷ [])) × StatesTyped s ss (part StatesOf i)))

    pub ArmsTyped : Scope → Arms → Instant → Type 0
    ArmsTyped s no_arm i = ⊤
    ArmsTyped s (more_arms c b at arms) i = BlockTyped s b (part Head i) × ArmsTyped s arms (part Tail i)

    pub StatesTyped : Scope → States → Instant → Type 0
    StatesTyped s no_state i = ⊤
    StatesTyped s (more_states f b until unless at ss) i =
        BlockTyped s b (part Body (part Head i))
        × (TestsTyped (inside s b) until (part Until (part Head i)) × (TestsTyped s unless (part Unless (part Head i)) × StatesTyped s ss (part Tail i)))

  abbrev pub ToldTyped : Scope → Option Expr → Instant → Type 0
  ToldTyped s None i = ⊤
  ToldTyped s (Some e) i = ExprTyped s e i

  -- a contract: its block, and what it assumes and enforces
  abbrev pub ContractTyped : Scope → Option Contract → Instant → Type 0
  ContractTyped s None i = ⊤
  ContractTyped s (Some c) i =
      BlockTyped s c.body (part Observer i) × (ToldTyped (inside s c.body) c.assume (part Assume i) × ToldTyped (inside s c.body) c.enforce (part Enforce i))

  -- a node: its outputs, its body and its contract
  abbrev pub NodeTyped : Scope → Node → Instant → Type 0
  NodeTyped s n i =
      OutputsTyped types n.outputs i × (BlockTyped (body_scope s n) n.body (part Body i) × ContractTyped (inside_node s n) n.contract i)
