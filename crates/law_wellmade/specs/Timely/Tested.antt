-- Tests that are typed: each clock of an equation, each arm and each part of a `merge` names a constructor of the type of what is tested, and none twice.
-- The rules of types and of definitions ask it of each program.
use Rattle.std.specs.Prelude.{⊤, ℕ, IsFalse, List, [], ◌∷◌, ◌++◌, Option, None, Some}
use Rattle.std.specs.List.{IsDistinct}
use Rattle.std.specs.Str.{bytes_eq}
use Rattle.hp_base.specs.declared.ty.Ty.{Ty}
use Rattle.hp_tree.specs.declared.decl.Cons.{Cons}
use Rattle.hp_tree.specs.declared.program.Item.{Item}
use Rattle.hp_tree.specs.declared.program.Item.TheVariants.{TypeItem, NodeItem}
use Rattle.hp_tree.specs.Expressions.{Expr, constant, variable, last_of, one, two, choose, pre, fby, arrow, when_is, merge, call, Exprs, no_expr, more_exprs, Parts, no_part, more_parts}
use Rattle.hp_tree.specs.Blocks.{Decl, Block, block, Eqns, no_eqn, more_eqns, Eqn, define, switch, reset, automaton, Arms, no_arm, more_arms}
use Rattle.hp_tree.specs.Programs.{TypeDecl, Node}
use Rattle.hp_tree.specs.Operators.{cons_of}
use Rattle.hp_tree.specs.Values.{IsOf}
use Rattle.hp_tree.specs.Instant.{Clock}
use Rattle.hp_tree.specs.Meaning.{clock_of}
use Rattle.hp_base.specs.Known.Known.{lookup}
use Rattle.hp_typing.specs.Scopes.{with_variables}
use Rattle.hp_typing.specs.Types.{type_of}
use Rattle.law_judged.specs.Typed.Scopes.{Scope}
use Rattle.law_values.specs.Valued.Judged.{is_named, of_parts, of_arms, body_scope}
use Rattle.law_values.specs.Valued.Values.{scope_behind}

-- the constructors of all types
abbrev pub all_constructors : List TypeDecl → List (List ℕ)
all_constructors [] = []
all_constructors (d ∷ types) = d.cons ++ all_constructors types

-- No constructor stands twice.
abbrev pub ConstructorsDiffer : List TypeDecl → Type 0
ConstructorsDiffer types = IsDistinct bytes_eq (all_constructors types)

abbrev pub AreApart : List Cons → Type 0
AreApart [] = ⊤
AreApart (c ∷ cs) = IsFalse (is_named cs c) × AreApart cs

module _ (types : List TypeDecl) where
  -- a constructor is of a type
  abbrev pub ConsIs : Option Ty → Cons → Type 0
  ConsIs None c = ⊥
  ConsIs (Some t) c = IsOf types t (cons_of types c)

  abbrev pub ConsAre : Option Ty → List Cons → Type 0
  ConsAre t [] = ⊤
  ConsAre t (c ∷ cs) = ConsIs t c × ConsAre t cs

  abbrev pub ClockTested : Scope → Clock → Type 0
  ClockTested s [] = ⊤
  ClockTested s (step ∷ clock) = ConsIs (lookup s.variables step.1) step.0 × ClockTested s clock

  abbrev mutual
    pub ExprTested : Scope → Expr → Type 0
    ExprTested s (constant a c) = ⊤
    ExprTested s (variable a x) = ⊤
    ExprTested s (last_of a x) = ⊤
    ExprTested s (one a o d) = ExprTested s d
    ExprTested s (two a o d e) = ExprTested s d × ExprTested s e
    ExprTested s (choose a d e f) = ExprTested s d × (ExprTested s e × ExprTested s f)
    ExprTested s (pre a d) = ExprTested s d
    ExprTested s (fby a d e) = ExprTested s d × ExprTested s e
    ExprTested s (arrow a d e) = ExprTested s d × ExprTested s e
    ExprTested s (when_is a d c x) = ExprTested s d
    ExprTested s (merge a x ps) = ConsAre (lookup s.variables x) (of_parts ps) × (AreApart (of_parts ps) × PartsTested s ps)
    ExprTested s (call a f inlined es) = ExprsTested s es

    pub ExprsTested : Scope → Exprs → Type 0
    ExprsTested s no_expr = ⊤
    ExprsTested s (more_exprs e es) = ExprTested s e × ExprsTested s es

    pub PartsTested : Scope → Parts → Type 0
    PartsTested s no_part = ⊤
    PartsTested s (more_parts c e ps) = ExprTested s e × PartsTested s ps

  abbrev mutual
    pub BlockTested : Scope → Block → Type 0
    BlockTested s (block ds es) = EqnsTested (with_variables s ds) ds es

    pub EqnsTested : Scope → List Decl → Eqns → Type 0
    EqnsTested s ds no_eqn = ⊤
    EqnsTested s ds (more_eqns e es) = EqnTested s ds e × EqnsTested s ds es

    pub EqnTested : Scope → List Decl → Eqn → Type 0
    EqnTested s ds (define a ys e) = ClockTested s (clock_of ds ys e) × ExprTested s e
    EqnTested s ds (switch a e arms) = ExprTested s e × (ConsAre (type_of s e) (of_arms arms) × (AreApart (of_arms arms) × ArmsTested s arms))
    EqnTested s ds (reset a b e) = ExprTested s e × BlockTested s b
    EqnTested s ds (automaton a ss) = ⊤

    pub ArmsTested : Scope → Arms → Type 0
    ArmsTested s no_arm = ⊤
    ArmsTested s (more_arms c b a arms) = BlockTested s b × ArmsTested s arms

  abbrev pub NodeTested : Scope → Node → Type 0
  NodeTested s n = BlockTested (body_scope s n) n.body

  -- each node of some items, the last one first
  abbrev pub AreTested : List Item → Type 0
  AreTested [] = ⊤
  AreTested (TypeItem t ∷ earlier) = AreTested earlier
  AreTested (NodeItem n ∷ earlier) = NodeTested (scope_behind earlier) n × AreTested earlier
