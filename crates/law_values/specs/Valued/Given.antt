-- What is given at an instant fits: a value of its type for each controllable variable, and at a `pre` what it gives without a past. In the language that is Nil; in its filled form a given value, which is to be of its type. Nothing else that is given is looked at.
use Rattle.std.specs.Prelude.{⊤, ℕ, Bool, List, [], ◌∷◌, Option, None, Some}
use Rattle.hp_base.specs.declared.ty.Ty.{Ty}
use Rattle.hp_base.specs.declared.value.Value.{Value}
use Rattle.hp_tree.specs.declared.block.Trans.{Trans}
use Rattle.hp_tree.specs.Expressions.{Expr, constant, variable, last_of, one, two, choose, pre, fby, arrow, when_is, merge, call, Exprs, no_expr, more_exprs, Parts, no_part, more_parts}
use Rattle.hp_tree.specs.Blocks.{Decl, Block, block, Eqns, no_eqn, more_eqns, Eqn, define, switch, reset, automaton, Arms, no_arm, more_arms, States, no_state, more_states}
use Rattle.hp_tree.specs.Programs.{TypeDecl, Contract, Node}
use Rattle.hp_tree.specs.Operators.{Reading, real}
use Rattle.hp_tree.specs.Instant.{Controls, Body, Observer, Assume, Enforce, Equations, Head, Tail, Right, Test, Arms as ArmsOf, States as StatesOf, Until, Unless, First, Second, Third, Args, Instance, Instant, part, top}
use Rattle.hp_tree.specs.Meaning.{controls_of}
use Rattle.hp_tree.specs.Values.{IsOf}
use Rattle.hp_typing.specs.Scopes.{with_variables, inside, inside_node}
use Rattle.hp_typing.specs.Types.{type_of}
use Rattle.law_judged.specs.Typed.Scopes.{Scope}
use Rattle.law_values.specs.Valued.Fitting.{HasValue}

-- the language, where `pre` without a past gives u of what is given: Nil in the language itself, the given value in its filled form
abbrev pub reading : (Value → Value) → Reading
reading u = record real { undefined = u }

module _ (types : List TypeDecl) (nils : Bool) (u : Value → Value) (callee : List ℕ → Instant → Type 0) where
  abbrev pub UndefinedFits : Option Ty → Value → Type 0
  UndefinedFits None v = ⊤
  UndefinedFits (Some t) v = HasValue types t nils (u v)

  module _ (s : Scope) where
    abbrev mutual
      pub ExprGiven : Expr → Instant → Type 0
      ExprGiven (constant at c) i = ⊤
      ExprGiven (variable at x) i = ⊤
      ExprGiven (last_of at x) i = ⊤
      ExprGiven (one at o a) i = ExprGiven a (part First i)
      ExprGiven (two at o a b) i = ExprGiven a (part First i) × ExprGiven b (part Second i)
      ExprGiven (choose at a b c) i = ExprGiven a (part First i) × (ExprGiven b (part Second i) × ExprGiven c (part Third i))
      ExprGiven (pre at a) i = UndefinedFits (type_of s a) (top i) × ExprGiven a (part First i)
      ExprGiven (fby at a b) i = ExprGiven a (part First i) × ExprGiven b (part Second i)
      ExprGiven (arrow at a b) i = ExprGiven a (part First i) × ExprGiven b (part Second i)
      ExprGiven (when_is at a c x) i = ExprGiven a (part First i)
      ExprGiven (merge at x ps) i = PartsGiven ps (part Args i)
      ExprGiven (call at f inlined es) i = ExprsGiven es (part Args i) × callee f (part Instance i)

      pub ExprsGiven : Exprs → Instant → Type 0
      ExprsGiven no_expr i = ⊤
      ExprsGiven (more_exprs e es) i = ExprGiven e (part Head i) × ExprsGiven es (part Tail i)

      pub PartsGiven : Parts → Instant → Type 0
      PartsGiven no_part i = ⊤
      PartsGiven (more_parts c e ps) i = ExprGiven e (part Head i) × PartsGiven ps (part Tail i)

    abbrev pub TestsGiven : List Trans → Instant → Type 0
    TestsGiven [] i = ⊤
    TestsGiven (t ∷ ts) i = ExprGiven t.cond (part Head i) × TestsGiven ts (part Tail i)

  abbrev mutual
    pub BlockGiven : Scope → Block → Instant → Type 0
    BlockGiven s (block ds es) i = EqnsGiven (with_variables s ds) es (part Equations i)

    pub EqnsGiven : Scope → Eqns → Instant → Type 0
    EqnsGiven s no_eqn i = ⊤
    EqnsGiven s (more_eqns e es) i = EqnGiven s e (part Head i) × EqnsGiven s es (part Tail i)

    pub EqnGiven : Scope → Eqn → Instant → Type 0
    EqnGiven s (define at ys e) i = ExprGiven s e (part Right i)
    EqnGiven s (switch at e arms) i = ExprGiven s e (part Test i) × ArmsGiven s arms (part ArmsOf i)
    EqnGiven s (reset at b e) i = ExprGiven s e (part Test i) × BlockGiven s b (part Body i)
    EqnGiven s (automaton at ss) i = StatesGiven s ss (part StatesOf i)

    pub ArmsGiven : Scope → Arms → Instant → Type 0
    ArmsGiven s no_arm i = ⊤
    ArmsGiven s (more_arms c b at arms) i = BlockGiven s b (part Head i) × ArmsGiven s arms (part Tail i)

    pub StatesGiven : Scope → States → Instant → Type 0
    StatesGiven s no_state i = ⊤
    StatesGiven s (more_states f b until unless at ss) i =
        BlockGiven s b (part Body (part Head i))
        × (TestsGiven (inside s b) until (part Until (part Head i)) × (TestsGiven s unless (part Unless (part Head i)) × StatesGiven s ss (part Tail i)))

  abbrev pub ToldGiven : Scope → Option Expr → Instant → Type 0
  ToldGiven s None i = ⊤
  ToldGiven s (Some e) i = ExprGiven s e i

  abbrev pub ContractGiven : Scope → Option Contract → Instant → Type 0
  ContractGiven s None i = ⊤
  ContractGiven s (Some c) i = BlockGiven s c.body (part Observer i) × (ToldGiven (inside s c.body) c.assume (part Assume i) × ToldGiven (inside s c.body) c.enforce (part Enforce i))

  -- each controllable variable is given a value of its type
  abbrev pub ControlsGiven : List Decl → Instant → Type 0
  ControlsGiven [] i = ⊤
  ControlsGiven (d ∷ ds) i = IsOf types d.ty (i (Head ∷ [])) × ControlsGiven ds (part Tail i)

  abbrev pub BodyGiven : Scope → Node → Instant → Type 0
  BodyGiven s n i =
      ControlsGiven (controls_of n.contract) (part Controls i)
      × BlockGiven (with_variables (inside_node s n) (controls_of n.contract)) n.body (part Body i)

  abbrev pub NodeGiven : Scope → Node → Instant → Type 0
  NodeGiven s n i = BodyGiven s n i × ContractGiven (inside_node s n) n.contract i
