-- Tests that fit, in programs with automata: what typing and coverage alone do not say of them. No constructor stands twice among the parts of a `merge` or the arms of a `switch`, each arm names a
-- constructor of the type of what is tested, and so does each step of a clock that is written.
use Rattle.std.specs.Prelude.{◌≡◌, ⊤, List, [], ◌∷◌, Option, None, Some}
use Rattle.hp_base.specs.declared.ty.Ty.{Ty}
use Rattle.hp_tree.specs.declared.block.Trans.{Trans}
use Rattle.hp_tree.specs.declared.program.Item.{Item}
use Rattle.hp_tree.specs.declared.program.Item.TheVariants.{TypeItem, NodeItem}
use Rattle.hp_tree.specs.Expressions.{Expr, constant, variable, last_of, one, two, choose, pre, fby, arrow, when_is, merge, call, Exprs, no_expr, more_exprs, Parts, no_part, more_parts}
use Rattle.hp_tree.specs.Blocks.{Decl, Block, block, Eqns, no_eqn, more_eqns, Eqn, define, switch, reset, automaton, Arms, no_arm, more_arms, States, no_state, more_states}
use Rattle.hp_tree.specs.Programs.{TypeDecl, Node}
use Rattle.hp_tree.specs.Instant.{Clock}
use Rattle.hp_typing.specs.Scopes.{with_variables}
use Rattle.hp_typing.specs.Types.{type_of}
use Rattle.law_judged.specs.Typed.Scopes.{Scope}
use Rattle.law_values.specs.Valued.Judged.{of_parts, of_arms, body_scope}
use Rattle.law_values.specs.Valued.Values.{scope_behind}
use Rattle.law_wellmade.specs.Timely.Tested.{AreApart, ConsAre, ClockTested}

-- the parts of each `merge` are apart
abbrev mutual
  pub ExprApart : Expr → Type 0
  ExprApart (constant a c) = ⊤
  ExprApart (variable a x) = ⊤
  ExprApart (last_of a x) = ⊤
  ExprApart (one a o d) = ExprApart d
  ExprApart (two a o d e) = ExprApart d × ExprApart e
  ExprApart (choose a d e f) = ExprApart d × (ExprApart e × ExprApart f)
  ExprApart (pre a d) = ExprApart d
  ExprApart (fby a d e) = ExprApart d × ExprApart e
  ExprApart (arrow a d e) = ExprApart d × ExprApart e
  ExprApart (when_is a d c x) = ExprApart d
  ExprApart (merge a x ps) = AreApart (of_parts ps) × PartsApart ps
  ExprApart (call a f inlined es) = ExprsApart es

  pub ExprsApart : Exprs → Type 0
  ExprsApart no_expr = ⊤
  ExprsApart (more_exprs e es) = ExprApart e × ExprsApart es

  pub PartsApart : Parts → Type 0
  PartsApart no_part = ⊤
  PartsApart (more_parts c e ps) = ExprApart e × PartsApart ps

abbrev pub TestsApart : List Trans → Type 0
TestsApart [] = ⊤
TestsApart (t ∷ ts) = ExprApart t.cond × TestsApart ts

module _ (types : List TypeDecl) where
  -- a clock that is written
  abbrev pub WrittenFits : Scope → Option Clock → Type 0
  WrittenFits s None = ⊤
  WrittenFits s (Some path) = ClockTested types s path

  abbrev pub DeclsFit : Scope → List Decl → Type 0
  DeclsFit s [] = ⊤
  DeclsFit s (d ∷ ds) = WrittenFits s d.clock × DeclsFit s ds

  -- the arms of what is tested
  abbrev pub TestFits : Scope → Expr → Arms → Type 0
  TestFits s e arms = (t : Ty) × ((type_of s e ≡ Some t) × (ConsAre types (Some t) (of_arms arms) × AreApart (of_arms arms)))

  abbrev mutual
    pub BlockFits : Scope → Block → Type 0
    BlockFits s (block ds es) = DeclsFit (with_variables s ds) ds × EqnsFit (with_variables s ds) es

    pub EqnsFit : Scope → Eqns → Type 0
    EqnsFit s no_eqn = ⊤
    EqnsFit s (more_eqns e es) = EqnFits s e × EqnsFit s es

    pub EqnFits : Scope → Eqn → Type 0
    EqnFits s (define a ys e) = ExprApart e
    EqnFits s (switch a e arms) = ExprApart e × (TestFits s e arms × ArmsFit s arms)
    EqnFits s (reset a b e) = ExprApart e × BlockFits s b
    EqnFits s (automaton a ss) = StatesFit s ss

    pub ArmsFit : Scope → Arms → Type 0
    ArmsFit s no_arm = ⊤
    ArmsFit s (more_arms c b a arms) = BlockFits s b × ArmsFit s arms

    pub StatesFit : Scope → States → Type 0
    StatesFit s no_state = ⊤
    StatesFit s (more_states f b until unless a ss) = BlockFits s b × (TestsApart until × (TestsApart unless × StatesFit s ss))

  abbrev pub NodeFits : Scope → Node → Type 0
  NodeFits s n = BlockFits (body_scope s n) n.body

  -- each node of some items, the last one first
  abbrev pub FitBehind : List Item → Type 0
  FitBehind [] = ⊤
  FitBehind (TypeItem t ∷ earlier) = FitBehind earlier
  FitBehind (NodeItem n ∷ earlier) = NodeFits (scope_behind earlier) n × FitBehind earlier
