-- Registers in shape, and given values that fit: a register holds a value of the type of what it stores, now and at the start, and so is what is given where it is taken.
-- Source: own.
use Rattle.std.specs.Prelude.{ℕ, ◌≡◌, ⊤, IsTrue, List, [], ◌∷◌, Option, None, Some}
use Rattle.hp_base.specs.declared.ty.Ty.{Ty}
use Rattle.hp_base.specs.declared.ty.Ty.TheVariants as ty
use Rattle.hp_base.specs.declared.value.Value.{Value}
use Rattle.hp_tree.specs.declared.block.Trans.{Trans}
use Rattle.hp_tree.specs.declared.expr.Op2.{Op2}
use Rattle.hp_tree.specs.Expressions.{Expr, constant, variable, last_of, one, two, choose, pre, fby, arrow, when_is, merge, call, Exprs, no_expr, more_exprs, Parts, no_part, more_parts}
use Rattle.hp_tree.specs.Blocks.{Decl, Block, block, Eqns, no_eqn, more_eqns, Eqn, define, switch, reset, automaton, Arms, no_arm, more_arms, States, no_state, more_states}
use Rattle.hp_tree.specs.Programs.{TypeDecl, Contract, Node}
use Rattle.hp_tree.specs.Operators.{is_comparison, marked}
use Rattle.hp_tree.specs.Instant.{Controls, Body, Observer, Assume, Enforce, Named, Fresh, Equations, Head, Tail, Right, Test, Arms as ArmsOf, States as StatesOf, Until, Unless, Next, Pending, First, Second, Third, Args, Instance, Instant, part, top}
use Rattle.hp_tree.specs.Meaning.{controls_of}
use Rattle.hp_base.specs.Known.Known.{lookup}
use Rattle.hp_typing.specs.Scopes.{with_variables, inside, inside_node}
use Rattle.hp_typing.specs.Types.{type_of}
use Rattle.law_judged.specs.Typed.Scopes.{Scope}
use Rattle.law_values.specs.Valued.Judged.{body_scope}
use Rattle.hp_meaning.specs.Contract.Memory.{is_last}
use Rattle.law_games.specs.Wiretyped.Typed.{IsWire, HasWire, IsFlag, IsStateOf}

-- the `last` variables among some declarations
abbrev pub LastsKept : List TypeDecl → Scope → List Decl → Instant → Type 0
LastsKept types s ds mem = (x : List ℕ) (t : Ty) → IsTrue (is_last ds x) → lookup s.variables x ≡ Some t → IsWire types t (mem (Named x ∷ []))

-- ---- registers: `start` has their values at the start. `callee f` says so of an instance of the node f.

module _ (types : List TypeDecl) (callee : List ℕ → Instant → Instant → Type 0) where
  module _ (s : Scope) where
    abbrev mutual
      pub ExprKept : Expr → Instant → Instant → Type 0
      ExprKept (constant at c) start mem = ⊤
      ExprKept (variable at x) start mem = ⊤
      ExprKept (last_of at x) start mem = ⊤
      ExprKept (one at o a) start mem = ExprKept a (part First start) (part First mem)
      ExprKept (two at o a b) start mem = ExprKept a (part First start) (part First mem) × ExprKept b (part Second start) (part Second mem)
      ExprKept (choose at a b c) start mem =
          ExprKept a (part First start) (part First mem) × (ExprKept b (part Second start) (part Second mem) × ExprKept c (part Third start) (part Third mem))
      ExprKept (pre at a) start mem =
          HasWire types (type_of s a) (top start) × (HasWire types (type_of s a) (top mem) × ExprKept a (part First start) (part First mem))
      ExprKept (fby at a b) start mem =
          HasWire types (type_of s a) (top start)
          × (HasWire types (type_of s a) (top mem)
          × (IsFlag (mem (Fresh ∷ [])) × (ExprKept a (part First start) (part First mem) × ExprKept b (part Second start) (part Second mem))))
      ExprKept (arrow at a b) start mem =
          IsFlag (mem (Fresh ∷ [])) × (ExprKept a (part First start) (part First mem) × ExprKept b (part Second start) (part Second mem))
      ExprKept (when_is at a c x) start mem = ExprKept a (part First start) (part First mem)
      ExprKept (merge at x ps) start mem = PartsKept ps (part Args start) (part Args mem)
      ExprKept (call at f inlined es) start mem = ExprsKept es (part Args start) (part Args mem) × callee f (part Instance start) (part Instance mem)

      pub ExprsKept : Exprs → Instant → Instant → Type 0
      ExprsKept no_expr start mem = ⊤
      ExprsKept (more_exprs e es) start mem = ExprKept e (part Head start) (part Head mem) × ExprsKept es (part Tail start) (part Tail mem)

      pub PartsKept : Parts → Instant → Instant → Type 0
      PartsKept no_part start mem = ⊤
      PartsKept (more_parts c e ps) start mem = ExprKept e (part Head start) (part Head mem) × PartsKept ps (part Tail start) (part Tail mem)

    abbrev pub TestsKept : List Trans → Instant → Instant → Type 0
    TestsKept [] start mem = ⊤
    TestsKept (t ∷ ts) start mem = ExprKept t.cond (part Head start) (part Head mem) × TestsKept ts (part Tail start) (part Tail mem)

  abbrev mutual
    pub BlockKept : Scope → Block → Instant → Instant → Type 0
    BlockKept s (block ds es) start mem = LastsKept types (with_variables s ds) ds mem × EqnsKept (with_variables s ds) es (part Equations start) (part Equations mem)

    pub EqnsKept : Scope → Eqns → Instant → Instant → Type 0
    EqnsKept s no_eqn start mem = ⊤
    EqnsKept s (more_eqns e es) start mem = EqnKept s e (part Head start) (part Head mem) × EqnsKept s es (part Tail start) (part Tail mem)

    pub EqnKept : Scope → Eqn → Instant → Instant → Type 0
    EqnKept s (define at ys e) start mem = ExprKept s e (part Right start) (part Right mem)
    EqnKept s (switch at e arms) start mem = ExprKept s e (part Test start) (part Test mem) × ArmsKept s arms (part ArmsOf start) (part ArmsOf mem)
    EqnKept s (reset at b e) start mem = ExprKept s e (part Test start) (part Test mem) × BlockKept s b (part Body start) (part Body mem)
    EqnKept s (automaton at ss) start mem =
        IsStateOf ss (mem (Next ∷ [])) × (IsFlag (mem (Pending ∷ [])) × StatesKept s ss (part StatesOf start) (part StatesOf mem))

    pub ArmsKept : Scope → Arms → Instant → Instant → Type 0
    ArmsKept s no_arm start mem = ⊤
    ArmsKept s (more_arms c b at arms) start mem = BlockKept s b (part Head start) (part Head mem) × ArmsKept s arms (part Tail start) (part Tail mem)

    pub StatesKept : Scope → States → Instant → Instant → Type 0
    StatesKept s no_state start mem = ⊤
    StatesKept s (more_states f b until unless at ss) start mem =
        BlockKept s b (part Body (part Head start)) (part Body (part Head mem))
        × (TestsKept (inside s b) until (part Until (part Head start)) (part Until (part Head mem))
        × (TestsKept s unless (part Unless (part Head start)) (part Unless (part Head mem)) × StatesKept s ss (part Tail start) (part Tail mem)))

  abbrev pub ToldKept : Scope → Option Expr → Instant → Instant → Type 0
  ToldKept s None start mem = ⊤
  ToldKept s (Some e) start mem = ExprKept s e start mem

  abbrev pub ContractKept : Scope → Option Contract → Instant → Instant → Type 0
  ContractKept s None start mem = ⊤
  ContractKept s (Some c) start mem =
      BlockKept s c.body (part Observer start) (part Observer mem)
      × (ToldKept (inside s c.body) c.assume (part Assume start) (part Assume mem) × ToldKept (inside s c.body) c.enforce (part Enforce start) (part Enforce mem))

  abbrev pub NodeKept : Scope → Node → Instant → Instant → Type 0
  NodeKept s n start mem =
      LastsKept types (inside_node s n) n.outputs mem
      × (BlockKept (body_scope s n) n.body (part Body start) (part Body mem) × ContractKept (inside_node s n) n.contract start mem)

-- ---- given values: a truth value for each comparison of integers, values of the types of the outputs of calls, and of controllable variables

abbrev pub ComparisonGiven : Op2 → Option Ty → Value → Type 0
ComparisonGiven o (Some ty.Int) v = IsTrue (is_comparison o) → IsFlag v
ComparisonGiven o t v = ⊤

-- what is given for some declarations, in a row
abbrev pub RowGiven : List TypeDecl → List Decl → Instant → Type 0
RowGiven types [] i = ⊤
RowGiven types (d ∷ ds) i = IsWire types d.ty (i (Head ∷ [])) × RowGiven types ds (part Tail i)

-- what is given for outputs, where an integer counts as its mark
abbrev pub OutputsGiven : List TypeDecl → List Decl → Instant → Type 0
OutputsGiven types [] i = ⊤
OutputsGiven types (d ∷ ds) i = IsWire types d.ty (marked (i (Named d.name ∷ []))) × OutputsGiven types ds i

module _ (types : List TypeDecl) (callee : List ℕ → Instant → Type 0) where
  module _ (s : Scope) where
    abbrev mutual
      pub ExprGiven : Expr → Instant → Type 0
      ExprGiven (constant at c) i = ⊤
      ExprGiven (variable at x) i = ⊤
      ExprGiven (last_of at x) i = ⊤
      ExprGiven (one at o a) i = ExprGiven a (part First i)
      ExprGiven (two at o a b) i = ComparisonGiven o (type_of s a) (top i) × (ExprGiven a (part First i) × ExprGiven b (part Second i))
      ExprGiven (choose at a b c) i = ExprGiven a (part First i) × (ExprGiven b (part Second i) × ExprGiven c (part Third i))
      ExprGiven (pre at a) i = ExprGiven a (part First i)
      ExprGiven (fby at a b) i = ExprGiven a (part First i) × ExprGiven b (part Second i)
      ExprGiven (arrow at a b) i = ExprGiven a (part First i) × ExprGiven b (part Second i)
      ExprGiven (when_is at a c x) i = ExprGiven a (part First i)
      ExprGiven (merge at x ps) i = PartsGiven ps (part Args i)
      ExprGiven (call at f inlined es) i = ExprsGiven es (part Args i) × callee f (part Instance i)

      pub ExprsGiven : Exprs → Instant → Type 0
      ExprsGiven no_expr i = ⊤
      ExprsGiven (more_exprs e es) i = ExprGiven e (part Head i) × ExprsGiven es (part Tail i)

      pub PartsGiven : Parts → Instant → Type 0
      PartsGiven no_part i = ⊤
      PartsGiven (more_parts c e ps) i = ExprGiven e (part Head i) × PartsGiven ps (part Tail i)

    abbrev pub TestsGiven : List Trans → Instant → Type 0
    TestsGiven [] i = ⊤
    TestsGiven (t ∷ ts) i = ExprGiven t.cond (part Head i) × TestsGiven ts (part Tail i)

  abbrev mutual
    pub BlockGiven : Scope → Block → Instant → Type 0
    BlockGiven s (block ds es) i = EqnsGiven (with_variables s ds) es (part Equations i)

    pub EqnsGiven : Scope → Eqns → Instant → Type 0
    EqnsGiven s no_eqn i = ⊤
    EqnsGiven s (more_eqns e es) i = EqnGiven s e (part Head i) × EqnsGiven s es (part Tail i)

    pub EqnGiven : Scope → Eqn → Instant → Type 0
    EqnGiven s (define at ys e) i = ExprGiven s e (part Right i)
    EqnGiven s (switch at e arms) i = ExprGiven s e (part Test i) × ArmsGiven s arms (part ArmsOf i)
    EqnGiven s (reset at b e) i = ExprGiven s e (part Test i) × BlockGiven s b (part Body i)
    EqnGiven s (automaton at ss) i = StatesGiven s ss (part StatesOf i)

    pub ArmsGiven : Scope → Arms → Instant → Type 0
    ArmsGiven s no_arm i = ⊤
    ArmsGiven s (more_arms c b at arms) i = BlockGiven s b (part Head i) × ArmsGiven s arms (part Tail i)

    pub StatesGiven : Scope → States → Instant → Type 0
    StatesGiven s no_state i = ⊤
    StatesGiven s (more_states f b until unless at ss) i =
        BlockGiven s b (part Body (part Head i))
        × (TestsGiven (inside s b) until (part Until (part Head i)) × (TestsGiven s unless (part Unless (part Head i)) × StatesGiven s ss (part Tail i)))

  abbrev pub ToldGiven : Scope → Option Expr → Instant → Type 0
  ToldGiven s None i = ⊤
  ToldGiven s (Some e) i = ExprGiven s e i

  abbrev pub ContractGiven : Scope → Option Contract → Instant → Type 0
  ContractGiven s None i = ⊤
  ContractGiven s (Some c) i =
      BlockGiven s c.body (part Observer i) × (ToldGiven (inside s c.body) c.assume (part Assume i) × ToldGiven (inside s c.body) c.enforce (part Enforce i))

  abbrev pub NodeGiven : Scope → Node → Instant → Type 0
  NodeGiven s n i =
      RowGiven types (controls_of n.contract) (part Controls i) × (BlockGiven (body_scope s n) n.body (part Body i) × ContractGiven (inside_node s n) n.contract i)
