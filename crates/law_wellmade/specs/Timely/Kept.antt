-- Which flat names stand for what a node remembers: whether a clock is there for the first time, and the values that operands and names had when a clock was last there.
use Rattle.std.specs.Prelude.{◌≡◌, ◌⊎◌, ⊤, ℕ, IsTrue, if◌then◌else◌, List, [], ◌∷◌, Option, None, Some}
use Rattle.std.specs.Str.{bytes_eq}
use Rattle.hp_base.specs.declared.ty.Const.{Const}
use Rattle.hp_base.specs.declared.value.Value.{Value}
use Rattle.hp_tree.specs.Expressions.{Expr, constant, variable, last_of, one, two, choose, pre, fby, arrow, when_is, merge, call, Exprs, no_expr, more_exprs, Parts, no_part, more_parts}
use Rattle.hp_tree.specs.Blocks.{Decl, Block, block, Eqns, no_eqn, more_eqns, Eqn, define, switch, reset, automaton, Arms, no_arm, more_arms}
use Rattle.hp_tree.specs.Programs.{TypeDecl, Node}
use Rattle.hp_tree.specs.Operators.{cons_of, constant_of}
use Rattle.hp_tree.specs.Instant.{Named, Equations, Head, Tail, Right as RightOf, Test, Arms as ArmsOf, Body, First, Second, Third, Args, Place, Clock, without}
use Rattle.hp_tree.specs.Meaning.{clock_of}
use Rattle.law_equations.specs.Meaning.Fitting.{is_there}
use Rattle.law_equations.specs.Flattened.Flatten.{FlatName, At, IsFirst, Held, When, always, on, constant_in, Prefix, below, Scope, inside_at, within_at, restarts_at, lasts_at, under, node_scope}
use Rattle.law_equations.specs.Flattened.Lifted.{in_body, node_lasts}

-- the first value with which a name is declared
abbrev pub last_in : List Decl → List ℕ → Option Const
last_in [] x = None
last_in (d ∷ ds) x = if bytes_eq d.name x then d.last else last_in ds x

module _ (types : List TypeDecl) (fill : Place → Value) where
  -- the last values of the declarations of a block
  abbrev pub OfLasts : List Decl → Prefix → When → List Place → FlatName → Type 0
  OfLasts ds here ck rs a = (x : List ℕ) × (c : Const) × (last_in ds x ≡ Some c) × (a ≡ Held (constant_of types c) (here (Named x ∷ [])) ck rs)

  abbrev mutual
    pub OfExpr : Expr → Clock → Scope → Prefix → When → List Place → FlatName → Type 0
    OfExpr (constant s c) clock sc here ck rs a = ⊥
    OfExpr (variable s x) clock sc here ck rs a = ⊥
    OfExpr (last_of s x) clock sc here ck rs a = ⊥
    OfExpr (one s o d) clock sc here ck rs a = OfExpr d clock sc (below First here) ck rs a
    OfExpr (two s o d e) clock sc here ck rs a = OfExpr d clock sc (below First here) ck rs a ⊎ OfExpr e clock sc (below Second here) ck rs a
    OfExpr (choose s d e f) clock sc here ck rs a =
        OfExpr d clock sc (below First here) ck rs a ⊎ (OfExpr e clock sc (below Second here) ck rs a ⊎ OfExpr f clock sc (below Third here) ck rs a)
    OfExpr (pre s d) clock sc here ck rs a = OfExpr d clock sc (below First here) ck rs a
    OfExpr (fby s d e) clock sc here ck rs a =
        ((constant_in d ≡ None) × ((a ≡ IsFirst (under types sc clock ck) rs) ⊎ (a ≡ Held (fill (here [])) (here (Second ∷ [])) (under types sc clock ck) rs)))
        ⊎ (OfExpr d clock sc (below First here) ck rs a ⊎ OfExpr e clock sc (below Second here) ck rs a)
    OfExpr (arrow s d e) clock sc here ck rs a =
        (a ≡ IsFirst (under types sc clock ck) rs) ⊎ (OfExpr d clock sc (below First here) ck rs a ⊎ OfExpr e clock sc (below Second here) ck rs a)
    OfExpr (when_is s d c x) clock sc here ck rs a = OfExpr d (without clock) sc (below First here) ck rs a
    OfExpr (merge s x ps) clock sc here ck rs a = OfParts ps x clock sc (below Args here) ck rs a
    OfExpr (call s f inlined es) clock sc here ck rs a = OfExprs es clock sc (below Args here) ck rs a

    pub OfExprs : Exprs → Clock → Scope → Prefix → When → List Place → FlatName → Type 0
    OfExprs no_expr clock sc here ck rs a = ⊥
    OfExprs (more_exprs e es) clock sc here ck rs a = OfExpr e clock sc (below Head here) ck rs a ⊎ OfExprs es clock sc (below Tail here) ck rs a

    pub OfParts : Parts → List ℕ → Clock → Scope → Prefix → When → List Place → FlatName → Type 0
    OfParts no_part x clock sc here ck rs a = ⊥
    OfParts (more_parts c e ps) x clock sc here ck rs a = OfExpr e ((c, x) ∷ clock) sc (below Head here) ck rs a ⊎ OfParts ps x clock sc (below Tail here) ck rs a

  abbrev mutual
    pub OfBlock : Block → Scope → Scope → Prefix → When → List Place → FlatName → Type 0
    OfBlock (block ds es) sc lsc here ck rs a =
        OfLasts ds here ck rs a ⊎ OfEqns ds es (inside_at es sc here) (lasts_at types ds lsc here ck rs) (below Equations here) ck rs a

    pub OfEqns : List Decl → Eqns → Scope → Scope → Prefix → When → List Place → FlatName → Type 0
    OfEqns ds no_eqn sc lsc here ck rs a = ⊥
    OfEqns ds (more_eqns e es) sc lsc here ck rs a = OfEqn ds e sc lsc (below Head here) ck rs a ⊎ OfEqns ds es sc lsc (below Tail here) ck rs a

    pub OfEqn : List Decl → Eqn → Scope → Scope → Prefix → When → List Place → FlatName → Type 0
    OfEqn ds (define s ys e) sc lsc here ck rs a = OfExpr e (clock_of ds ys e) sc (below RightOf here) ck rs a
    OfEqn ds (switch s e arms) sc lsc here ck rs a =
        OfExpr e [] sc (below Test here) ck rs a ⊎ OfArms arms (At (here (Test ∷ []))) (within_at (switch s e arms) sc lsc) lsc (below ArmsOf here) ck rs a
    OfEqn ds (reset s b e) sc lsc here ck rs a =
        OfExpr e [] sc (below Test here) ck rs a ⊎ OfBlock b (within_at (reset s b e) sc lsc) lsc (below Body here) ck (restarts_at e here rs) a
    OfEqn ds (automaton s ss) sc lsc here ck rs a = ⊥

    pub OfArms : Arms → FlatName → Scope → Scope → Prefix → When → List Place → FlatName → Type 0
    OfArms no_arm test sc lsc here ck rs a = ⊥
    OfArms (more_arms c b s arms) test sc lsc here ck rs a =
        OfBlock b sc lsc (below Head here) (on (cons_of types c) test ck) rs a ⊎ OfArms arms test sc lsc (below Tail here) ck rs a

  -- a name for what a node remembers of its outputs and of its body
  abbrev pub IsRemembered : Node → FlatName → Type 0
  IsRemembered n a = OfLasts n.outputs in_body always [] a ⊎ OfBlock n.body (node_scope n) (node_lasts types n) in_body always [] a

-- ---- the first value behind each `fby` whose left side is no constant is there

abbrev pub IfNone : Option Const → Value → Type 0
IfNone None v = IsTrue (is_there v)
IfNone (Some c) v = ⊤

module _ (fill : Place → Value) where
  abbrev mutual
    pub ExprBegins : Expr → Prefix → Type 0
    ExprBegins (constant s c) here = ⊤
    ExprBegins (variable s x) here = ⊤
    ExprBegins (last_of s x) here = ⊤
    ExprBegins (one s o d) here = ExprBegins d (below First here)
    ExprBegins (two s o d e) here = ExprBegins d (below First here) × ExprBegins e (below Second here)
    ExprBegins (choose s d e f) here = ExprBegins d (below First here) × (ExprBegins e (below Second here) × ExprBegins f (below Third here))
    ExprBegins (pre s d) here = ExprBegins d (below First here)
    ExprBegins (fby s d e) here = IfNone (constant_in d) (fill (here [])) × (ExprBegins d (below First here) × ExprBegins e (below Second here))
    ExprBegins (arrow s d e) here = ExprBegins d (below First here) × ExprBegins e (below Second here)
    ExprBegins (when_is s d c x) here = ExprBegins d (below First here)
    ExprBegins (merge s x ps) here = PartsBegin ps (below Args here)
    ExprBegins (call s f inlined es) here = ExprsBegin es (below Args here)

    pub ExprsBegin : Exprs → Prefix → Type 0
    ExprsBegin no_expr here = ⊤
    ExprsBegin (more_exprs e es) here = ExprBegins e (below Head here) × ExprsBegin es (below Tail here)

    pub PartsBegin : Parts → Prefix → Type 0
    PartsBegin no_part here = ⊤
    PartsBegin (more_parts c e ps) here = ExprBegins e (below Head here) × PartsBegin ps (below Tail here)

  abbrev mutual
    pub BlockBegins : Block → Prefix → Type 0
    BlockBegins (block ds es) here = EqnsBegin es (below Equations here)

    pub EqnsBegin : Eqns → Prefix → Type 0
    EqnsBegin no_eqn here = ⊤
    EqnsBegin (more_eqns e es) here = EqnBegins e (below Head here) × EqnsBegin es (below Tail here)

    pub EqnBegins : Eqn → Prefix → Type 0
    EqnBegins (define s ys e) here = ExprBegins e (below RightOf here)
    EqnBegins (switch s e arms) here = ExprBegins e (below Test here) × ArmsBegin arms (below ArmsOf here)
    EqnBegins (reset s b e) here = ExprBegins e (below Test here) × BlockBegins b (below Body here)
    EqnBegins (automaton s ss) here = ⊤

    pub ArmsBegin : Arms → Prefix → Type 0
    ArmsBegin no_arm here = ⊤
    ArmsBegin (more_arms c b s arms) here = BlockBegins b (below Head here) × ArmsBegin arms (below Tail here)
