-- What a node remembers besides the values of its registers, on the clock and with the restarts of the place where it does: whether a clock is there for the first time, and values that places had.
use Rattle.std.specs.Prelude.{⊤, ℕ, List, [], ◌∷◌, Option, None, Some}
use Rattle.hp_base.specs.declared.ty.Const.{Const}
use Rattle.hp_base.specs.declared.value.Value.{Value}
use Rattle.hp_tree.specs.Expressions.{Expr, constant, variable, last_of, one, two, choose, pre, fby, arrow, when_is, merge, call, Exprs, no_expr, more_exprs, Parts, no_part, more_parts}
use Rattle.hp_tree.specs.Blocks.{Decl, Block, block, Eqns, no_eqn, more_eqns, Eqn, define, switch, reset, automaton, Arms, no_arm, more_arms}
use Rattle.hp_tree.specs.Programs.{TypeDecl, Node}
use Rattle.hp_tree.specs.Operators.{cons_of, constant_of}
use Rattle.hp_tree.specs.Instant.{Body, Named, Equations, Head, Tail, Right as RightOf, Test, Arms as ArmsOf, First, Second, Third, Args, Place, Clock, without}
use Rattle.hp_tree.specs.Meaning.{clock_of}
use Rattle.law_equations.specs.Flattened.Flatten.{FlatName, At, IsFirst, Held, When, always, on, Prefix, below, Scope, constant_in, inside_at, within_at, restarts_at, lasts_at, under, node_scope}
use Rattle.law_equations.specs.Flattened.Lifted.{in_body, node_lasts}

-- K is true of each of them.
module _ (K : FlatName → Type 0) (types : List TypeDecl) where
  -- the values of names that are declared with a first one
  abbrev pub LastKept : Option Const → List ℕ → Prefix → When → List Place → Type 0
  LastKept None x here ck rs = ⊤
  LastKept (Some c) x here ck rs = K (Held (constant_of types c) (here (Named x ∷ [])) ck rs)

  abbrev pub LastsKept : List Decl → Prefix → When → List Place → Type 0
  LastsKept [] here ck rs = ⊤
  LastsKept (d ∷ ds) here ck rs = LastKept d.last d.name here ck rs × LastsKept ds here ck rs

module _ (K : FlatName → Type 0) (types : List TypeDecl) (fill : Place → Value) where
  -- a `fby` whose first operand is a constant is a register
  abbrev pub FbyKeeps : Option Const → Prefix → When → List Place → Type 0 → Type 0 → Type 0
  FbyKeeps None here w rs A G = K (IsFirst w rs) × K (Held (fill (here [])) (here (Second ∷ [])) w rs) × A × G
  FbyKeeps (Some c) here w rs A G = G

  abbrev mutual
    pub ExprKeeps : Expr → Clock → Scope → Prefix → When → List Place → Type 0
    ExprKeeps (constant s c) clock sc here ck rs = ⊤
    ExprKeeps (variable s x) clock sc here ck rs = ⊤
    ExprKeeps (last_of s x) clock sc here ck rs = ⊤
    ExprKeeps (one s o a) clock sc here ck rs = ExprKeeps a clock sc (below First here) ck rs
    ExprKeeps (two s o a b) clock sc here ck rs = ExprKeeps a clock sc (below First here) ck rs × ExprKeeps b clock sc (below Second here) ck rs
    ExprKeeps (choose s a b c) clock sc here ck rs =
        ExprKeeps a clock sc (below First here) ck rs × ExprKeeps b clock sc (below Second here) ck rs × ExprKeeps c clock sc (below Third here) ck rs
    ExprKeeps (pre s a) clock sc here ck rs = ExprKeeps a clock sc (below First here) ck rs
    ExprKeeps (fby s a b) clock sc here ck rs =
        FbyKeeps (constant_in a) here (under types sc clock ck) rs (ExprKeeps a clock sc (below First here) ck rs) (ExprKeeps b clock sc (below Second here) ck rs)
    ExprKeeps (arrow s a b) clock sc here ck rs =
        K (IsFirst (under types sc clock ck) rs) × ExprKeeps a clock sc (below First here) ck rs × ExprKeeps b clock sc (below Second here) ck rs
    ExprKeeps (when_is s a c x) clock sc here ck rs = ExprKeeps a (without clock) sc (below First here) ck rs
    ExprKeeps (merge s x ps) clock sc here ck rs = PartsKeep ps x clock sc (below Args here) ck rs
    ExprKeeps (call s f inlined es) clock sc here ck rs = ExprsKeep es clock sc (below Args here) ck rs

    pub ExprsKeep : Exprs → Clock → Scope → Prefix → When → List Place → Type 0
    ExprsKeep no_expr clock sc here ck rs = ⊤
    ExprsKeep (more_exprs e es) clock sc here ck rs = ExprKeeps e clock sc (below Head here) ck rs × ExprsKeep es clock sc (below Tail here) ck rs

    pub PartsKeep : Parts → List ℕ → Clock → Scope → Prefix → When → List Place → Type 0
    PartsKeep no_part x clock sc here ck rs = ⊤
    PartsKeep (more_parts c e ps) x clock sc here ck rs = ExprKeeps e ((c, x) ∷ clock) sc (below Head here) ck rs × PartsKeep ps x clock sc (below Tail here) ck rs

  abbrev mutual
    pub BlockKeeps : Block → Scope → Scope → Prefix → When → List Place → Type 0
    BlockKeeps (block ds es) sc lsc here ck rs =
        LastsKept K types ds here ck rs × EqnsKeep ds es (inside_at es sc here) (lasts_at types ds lsc here ck rs) (below Equations here) ck rs

    pub EqnsKeep : List Decl → Eqns → Scope → Scope → Prefix → When → List Place → Type 0
    EqnsKeep ds no_eqn sc lsc here ck rs = ⊤
    EqnsKeep ds (more_eqns e es) sc lsc here ck rs = EqnKeeps ds e sc lsc (below Head here) ck rs × EqnsKeep ds es sc lsc (below Tail here) ck rs

    pub EqnKeeps : List Decl → Eqn → Scope → Scope → Prefix → When → List Place → Type 0
    EqnKeeps ds (define s ys e) sc lsc here ck rs = ExprKeeps e (clock_of ds ys e) sc (below RightOf here) ck rs
    EqnKeeps ds (switch s e arms) sc lsc here ck rs =
        ExprKeeps e [] sc (below Test here) ck rs × ArmsKeep arms (At (here (Test ∷ []))) (within_at (switch s e arms) sc lsc) lsc (below ArmsOf here) ck rs
    EqnKeeps ds (reset s b e) sc lsc here ck rs =
        ExprKeeps e [] sc (below Test here) ck rs × BlockKeeps b (within_at (reset s b e) sc lsc) lsc (below Body here) ck (restarts_at e here rs)
    EqnKeeps ds (automaton s ss) sc lsc here ck rs = ⊤

    pub ArmsKeep : Arms → FlatName → Scope → Scope → Prefix → When → List Place → Type 0
    ArmsKeep no_arm test sc lsc here ck rs = ⊤
    ArmsKeep (more_arms c b s arms) test sc lsc here ck rs =
        BlockKeeps b sc lsc (below Head here) (on (cons_of types c) test ck) rs × ArmsKeep arms test sc lsc (below Tail here) ck rs

  -- the body of a node, and the last values of its outputs
  abbrev pub NodeKeeps : Node → Type 0
  NodeKeeps n = LastsKept K types n.outputs in_body always [] × BlockKeeps n.body (node_scope n) (node_lasts types n) in_body always []

-- So it is of a name, if it is one that is remembered.
abbrev pub IsKept : (FlatName → Type 0) → FlatName → Type 0
IsKept K (IsFirst w rs) = K (IsFirst w rs)
IsKept K (Held v p w rs) = K (Held v p w rs)
IsKept K a = ⊤
