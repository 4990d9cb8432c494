-- Types and classes of a program as one judgement over the tree: what the proof takes at each place.
use Rattle.std.specs.Prelude.{◌≡◌, ⊤, ℕ, Bool, false, IsTrue, IsFalse, List, [], ◌∷◌, Option, None, Some}
use Rattle.hp_base.specs.declared.span.Span.{Span}
use Rattle.hp_base.specs.declared.ty.Ty.{Ty}
use Rattle.hp_base.specs.declared.ty.Ty.TheVariants as ty
use Rattle.hp_base.specs.declared.ty.Const.{Const}
use Rattle.hp_tree.specs.declared.block.Trans.{Trans}
use Rattle.hp_tree.specs.Expressions.{Expr, constant, variable, last_of, one, two, choose, pre, fby, arrow, when_is, merge, call, Exprs, no_expr, more_exprs, Parts, no_part, more_parts}
use Rattle.hp_tree.specs.Blocks.{Decl, Block, block, Eqns, no_eqn, more_eqns, Eqn, define, switch, reset, automaton, Arms, no_arm, more_arms, States, no_state, more_states}
use Rattle.hp_tree.specs.Programs.{TypeDecl, Contract, Node}
use Rattle.hp_tree.specs.Operators.{constant_of}
use Rattle.hp_tree.specs.Values.{IsOf}
use Rattle.hp_tree.specs.Instant.{Body, Observer, Named, Equations, Head, Tail, Arms as ArmsOf, States as StatesOf}
use Rattle.hp_tree.specs.Meaning.{declares, some_defines, block_defines, controls_of}
use Rattle.hp_base.specs.Known.Known.{lookup}
use Rattle.hp_typing.specs.Scopes.{with_variables, inside, inside_node}
use Rattle.hp_typing.specs.Types.{type_of, types_in, outputs_in}
use Rattle.law_judged.specs.Typed.Scopes.{Scope}
use Rattle.hp_init.specs.Classes.{Classes, Assignment, is_second}
use Rattle.law_values.specs.Valued.Judged.{Lasts, lasts_in, lasts_of, no_lasts, CoversType, Covers, of_parts, of_arms, ConstantIs, LeftsAre, LeftsHave, Completes, HaveOwnTypes}
use Rattle.law_values.specs.Valued.Classed.{classes_in, classes_within, classes_of, none_second}

-- The names on a left side are of class Second where the right side is.
abbrev pub LeftsFollow : Classes → List (List ℕ × Span) → Bool → Type 0
LeftsFollow second [] d = ⊤
LeftsFollow second (y ∷ ys) d = (IsTrue d → IsTrue (second y.0)) × LeftsFollow second ys d

-- `among` gives the nodes declared before
module _ (types : List TypeDecl) (among : List ℕ → Option Node) where
  module _ (s : Scope) (second : Classes) (lasts : Lasts) where
    -- What an expression wants is First, a `merge` names each constructor, and `last x` is read where x has a last value.
    abbrev mutual
      pub ExprOk : Expr → Type 0
      ExprOk (constant at c) = ConstantIs types s c
      ExprOk (variable at x) = ⊤
      ExprOk (last_of at x) = IsTrue (lasts x)
      ExprOk (one at o a) = ExprOk a
      ExprOk (two at o a b) = ExprOk a × ExprOk b
      ExprOk (choose at a b c) = ExprOk a × (ExprOk b × ExprOk c)
      ExprOk (pre at a) = IsFalse (is_second second a) × ExprOk a
      ExprOk (fby at a b) = IsFalse (is_second second b) × (ExprOk a × ExprOk b)
      ExprOk (arrow at a b) = ExprOk a × ExprOk b
      ExprOk (when_is at a c x) = IsFalse (second x) × ExprOk a
      ExprOk (merge at x ps) = IsFalse (second x) × (CoversType types (lookup s.variables x) (of_parts ps) × PartsOk ps)
      ExprOk (call at f i es) = (lookup s.nodes f ≡ among f) × ExprsOk es

      -- arguments and operands of `merge` are First
      pub ExprsOk : Exprs → Type 0
      ExprsOk no_expr = ⊤
      ExprsOk (more_exprs e es) = IsFalse (is_second second e) × (ExprOk e × ExprsOk es)

      pub PartsOk : Parts → Type 0
      PartsOk no_part = ⊤
      PartsOk (more_parts c e ps) = IsFalse (is_second second e) × (ExprOk e × PartsOk ps)

    -- The right side of an equation for some names.
    abbrev pub RightOk : List (List ℕ × Span) → Expr → Type 0
    RightOk ys (call at f i es) = ExprOk (call at f i es) × ((outs : List Decl) × ((outputs_in (lookup s.nodes f) (types_in s es) ≡ Some outs) × LeftsAre s ys outs))
    RightOk ys e = ExprOk e × ((t : Ty) × ((type_of s e ≡ Some t) × (LeftsHave s ys t × LeftsFollow second ys (is_second second e))))

    -- A condition is a `bool`, and First.
    abbrev pub TestOk : Expr → Type 0
    TestOk e = ExprOk e × (IsFalse (is_second second e) × (type_of s e ≡ Some ty.Bool))

    abbrev pub TestsOk : List Trans → Type 0
    TestsOk [] = ⊤
    TestsOk (t ∷ ts) = TestOk t.cond × TestsOk ts

  -- ---- declarations: a name has its type in the scope, an equation, and where it is `last` a constant of its type, and it is First.
  abbrev pub FirstOk : Ty → Option Const → Bool → Type 0
  FirstOk t None second = ⊤
  FirstOk t (Some c) second = IsOf types t (constant_of types c) × IsFalse second

  abbrev pub DeclsOk : Scope → Classes → Eqns → List Decl → Type 0
  DeclsOk s second es [] = ⊤
  DeclsOk s second es (d ∷ ds) =
      ((lookup s.variables d.name ≡ Some d.ty) × (IsTrue (some_defines es d.name) × FirstOk d.ty d.last (second d.name)))
      × DeclsOk s second es ds

  -- ---- equations

  -- A name that a block defines and does not declare is First, and its type is known.
  abbrev pub OthersFirst : Block → Scope → Assignment → Type 0
  OthersFirst (block ds es) s class =
      (x : List ℕ) → IsTrue (some_defines es x) → IsFalse (declares ds x) → IsFalse (class (Named x ∷ [])) × ((t : Ty) × (lookup s.variables x ≡ Some t))

  abbrev mutual
    pub BlockOk : Scope → Classes → Lasts → Assignment → Block → Type 0
    BlockOk s second lasts class (block ds es) =
        DeclsOk (with_variables s ds) (classes_in es second class) es ds
        × (OthersFirst (block ds es) s class
        × EqnsOk (with_variables s ds) (classes_in es second class) (lasts_in ds lasts) (λ p. class (Equations ∷ p)) es)

    pub EqnsOk : Scope → Classes → Lasts → Assignment → Eqns → Type 0
    EqnsOk s second lasts class no_eqn = ⊤
    EqnsOk s second lasts class (more_eqns e es) = EqnOk s second lasts (λ p. class (Head ∷ p)) e × EqnsOk s second lasts (λ p. class (Tail ∷ p)) es

    pub EqnOk : Scope → Classes → Lasts → Assignment → Eqn → Type 0
    EqnOk s second lasts class (define at ys e) = RightOk s second lasts ys e
    EqnOk s second lasts class (switch at e arms) =
        ExprOk s second lasts e
        × (IsFalse (is_second second e)
        × (((t : Ty) × ((type_of s e ≡ Some t) × Covers types t (of_arms arms)))
        × ArmsOk (switch at e arms) s (classes_within (switch at e arms) second) lasts (λ p. class (ArmsOf ∷ p)) arms))
    EqnOk s second lasts class (reset at b e) =
        TestOk s second lasts e × BlockOk s (classes_within (reset at b e) second) lasts (λ p. class (Body ∷ p)) b
    EqnOk s second lasts class (automaton at ss) =
        StatesOk (automaton at ss) s second (classes_within (automaton at ss) second) lasts (λ p. class (StatesOf ∷ p)) ss

    pub ArmsOk : Eqn → Scope → Classes → Lasts → Assignment → Arms → Type 0
    ArmsOk e s second lasts class no_arm = ⊤
    ArmsOk e s second lasts class (more_arms c b at arms) =
        Completes types among e lasts b × (BlockOk s second lasts (λ p. class (Head ∷ p)) b × ArmsOk e s second lasts (λ p. class (Tail ∷ p)) arms)

    -- Strong conditions are read outside of the automaton, weak ones in the body of their state.
    pub StatesOk : Eqn → Scope → Classes → Classes → Lasts → Assignment → States → Type 0
    StatesOk e s out second lasts class no_state = ⊤
    StatesOk e s out second lasts class (more_states f b until unless at ss) =
        Completes types among e lasts b
        × (BlockOk s second lasts (λ p. class (Head ∷ Body ∷ p)) b
        × (TestsOk (inside s b) (classes_of b second (λ p. class (Head ∷ Body ∷ p))) (lasts_of b lasts) until
        × (TestsOk s out lasts unless × StatesOk e s out second lasts (λ p. class (Tail ∷ p)) ss)))

  -- ---- nodes: inputs, outputs and controllable variables are First
  abbrev pub HaveEquations : Block → List Decl → Type 0
  HaveEquations b [] = ⊤
  HaveEquations b (d ∷ ds) = (IsTrue (block_defines b d.name) × FirstOk d.ty d.last false) × HaveEquations b ds

  abbrev pub ToldOk : Scope → Classes → Lasts → Option Expr → Type 0
  ToldOk s second lasts None = ⊤
  ToldOk s second lasts (Some e) = TestOk s second lasts e

  abbrev pub ContractOk : Scope → Lasts → Assignment → Option Contract → Type 0
  ContractOk s lasts class None = ⊤
  ContractOk s lasts class (Some c) =
      BlockOk s none_second lasts (λ p. class (Observer ∷ p)) c.body
      × (ToldOk (inside s c.body) (classes_of c.body none_second (λ p. class (Observer ∷ p))) (lasts_of c.body lasts) c.assume
      × ToldOk (inside s c.body) (classes_of c.body none_second (λ p. class (Observer ∷ p))) (lasts_of c.body lasts) c.enforce)

  abbrev pub NodeOk : Scope → Assignment → Node → Type 0
  NodeOk s class n =
      (HaveOwnTypes types among (inside_node s n) n.inputs × HaveOwnTypes types among (inside_node s n) n.outputs)
      × ((HaveOwnTypes types among (with_variables (inside_node s n) (controls_of n.contract)) n.inputs × HaveOwnTypes types among (with_variables (inside_node s n) (controls_of n.contract)) n.outputs)
      × ((HaveOwnTypes types among (with_variables (inside_node s n) (controls_of n.contract)) (controls_of n.contract))
      × (HaveEquations n.body n.outputs
      × (BlockOk (with_variables (inside_node s n) (controls_of n.contract)) none_second (lasts_in n.outputs no_lasts) (λ p. class (Body ∷ p)) n.body
      × ContractOk (inside_node s n) (lasts_in n.outputs no_lasts) class n.contract))))
