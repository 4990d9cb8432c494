-- What the variables of a sketch stand for.
use Rattle.std.specs.Prelude.{◌≡◌, ⊤, ℕ, Bool, true, false, ◌+◌, ◌<◌, ◌≤◌, List, [], ◌∷◌, ◌++◌, length, map, reverse, Option, None, Some}
use Rattle.std.specs.List.{AllByRecursion, IsDistinct}
use Rattle.std.specs.Str.{bytes_eq}
use Rattle.hp_base.specs.declared.value.Value.{Value}
use Rattle.hp_base.specs.declared.value.Value.TheVariants.{B}
use Rattle.hp_tree.specs.Expressions.{Expr, constant, variable, last_of, one, two, choose, pre, fby, arrow, when_is, merge, call, Exprs, no_expr, more_exprs, Parts, no_part, more_parts}
use Rattle.hp_tree.specs.Programs.{TypeDecl}
use Rattle.hp_tree.specs.Operators.{cons_of, constant_of}
use Rattle.hp_tree.specs.Instant.{First, Second, Third, Args, Head, Tail, Place}
use Rattle.hp_tree.specs.declared.decl.Cons.{Cons}
use Rattle.hp_base.specs.declared.ty.Const.{Const}
use Rattle.hp_tree.specs.Blocks.{Decl}
use Rattle.hp_flat.specs.Equations.{FlatEqn}
use Rattle.law_equations.specs.Flattened.Flat.{name, value, Register}
use Rattle.law_equations.specs.Flattened.Flatten.{FlatName, At, Nowhere, IsFirst, Held, When, steps, ats, row, constant_in, Prefix, below, Scope, Rows}
use Rattle.law_equations.specs.Flattened.Numbered.{number_of, definitions, AreSteps, AreRows, StandFor}
use Rattle.law_equations.specs.Made.Keeping.{IsKept}
use Rattle.law_equations.specs.Made.Labels.{Label, events, AreMadeAt}
use Rattle.law_equations.specs.Made.Making.{Known, Sketch, Site, Sight, Made, next, type_at, first_value, cons_number, constant_value, outputs_of, tested, off_site, on_site, part_at, sketch_expr}

-- what is known of a program agrees with what it declares
pub record Knows (types : List TypeDecl) (outputs : List ℕ → List (List ℕ)) (k : Known) : Type 0 where
  pub constructors : (c : Cons) → number_of (cons_of types c) ≡ cons_number k c
  pub constants : (c : Const) → constant_of types c ≡ constant_value k c
  pub calls : (f : List ℕ) → outputs f ≡ map (λ (d : Decl). d.name) (outputs_of (k.nodes f))
  pub outputs_differ : (f : List ℕ) → IsDistinct bytes_eq (outputs f)

-- variables from a number on stand for some flat names
abbrev pub Agrees : (ℕ → FlatName) → ℕ → List FlatName → Type 0
Agrees means j [] = ⊤
Agrees means j (a ∷ names) = (means j ≡ a) × Agrees means (j + 1) names

-- what stands for a name, if anything does
abbrev pub IsNamed : (ℕ → FlatName) → Option ℕ → FlatName → Type 0
IsNamed means None a = a ≡ Nowhere
IsNamed means (Some x) a = means x ≡ a

abbrev pub Sees : (ℕ → FlatName) → Sight → Scope → Scope → Type 0
Sees means see sc lsc = (x : List ℕ) → IsNamed means (see x).value (sc x) × IsNamed means (see x).last (lsc x)

-- a site is on a clock, with a restart list
pub record IsAt (means : ℕ → FlatName) (at : Site) (w : When) (rs : List Place) : Type 0 where
  pub clock : AreSteps means (reverse at.clock) (steps w)
  pub restart : map means (reverse at.restart) ≡ ats rs

-- the flag of a block
abbrev pub IsFlagged : (ℕ → FlatName) → Option ℕ → When → List Place → Type 0
IsFlagged means None w rs = ⊤
IsFlagged means (Some x) w rs = means x ≡ IsFirst w rs

-- the definitions of a variable
abbrev pub defs : Sketch → ℕ → List (FlatEqn × ℕ)
defs d x = definitions d.eqns x

-- no variable that is not made yet is defined
abbrev pub IsBounded : Sketch → Type 0
IsBounded d = (x : ℕ) → next d ≤ x → defs d x ≡ []

module _ (F : FlatName → Option Rows) where
  -- a variable is defined as the flat name that it stands for
  abbrev pub IsDone : (ℕ → FlatName) → Sketch → ℕ → Type 0
  IsDone means d x = StandFor means (defs d x) (means x) (F (means x))

  -- From one sketch to another: earlier variables keep their definitions, and new ones are done.
  pub record Steps (means : ℕ → FlatName) (d e : Sketch) : Type 0 where
    pub grown : next d ≤ next e
    pub kept : (x : ℕ) → x < next d → defs e x ≡ defs d x
    pub done : (x : ℕ) → next d ≤ x → x < next e → IsDone means e x
    pub bounded : IsBounded e

  -- What an expression is made of: its variable stands for a flat name, and the flag of the block for that of the block.
  pub record IsMade (means : ℕ → FlatName) (d : Sketch) (m : Made) (a : FlatName) (ck : When) (rs : List Place) : Type 0 where
    pub steps : Steps means d m.0
    pub value : means m.1 ≡ a
    pub flag : IsFlagged means m.0.flag ck rs

-- Equations are added, of which those that compare or call are made of what these labels say, whatever stands behind.
pub record AreLabelled (means : ℕ → FlatName) (before after : List FlatEqn) (labels : List Label → List Label) : Type 0 where
  pub added : List FlatEqn
  pub whole : after ≡ before ++ added
  pub made : (es : List FlatEqn) (rest : List Label) → AreMadeAt means (events es) rest → AreMadeAt means (events (added ++ es)) (labels rest)

-- Facts about the variables that are made from one sketch to another, and the labels of the equations, whatever stands for those that stand for these names. What is remembered is of K.
pub record Promises (K : FlatName → Type 0) (d e : Sketch) (labels : List Label → List Label) (Facts : (ℕ → FlatName) → Type 0) : Type 0 where
  pub names : List FlatName
  pub kept : AllByRecursion (IsKept K) names
  pub grown : next e ≡ next d + length names
  pub labelled : (means : ℕ → FlatName) → Agrees means (next d) names → AreLabelled means d.eqns e.eqns labels
  pub facts : (means : ℕ → FlatName) → Agrees means (next d) names → Facts means

-- where no equation compares or calls
abbrev pub Promised : (K : FlatName → Type 0) (d e : Sketch) (Facts : (ℕ → FlatName) → Type 0) → Type 0
Promised K d e Facts = Promises K d e (λ rest. rest) Facts

-- what is remembered, and the name that has no value, in equations over flat names
pub record Remembers (F : FlatName → Option Rows) : Type 1 where
  pub keeps : FlatName → Type 0
  pub first : (w : When) (rs : List Place) → F (IsFirst w rs) ≡ Some (row w rs (Register (B true) (value (B false))) ∷ [])
  pub held : (v : Value) (p : Place) (w : When) (rs : List Place) → F (Held v p w rs) ≡ Some (row w rs (Register v (name (At p))) ∷ [])
  pub nowhere : F Nowhere ≡ None

-- ---- what is asked of expressions: the first values of registers are those of the types of their variables, and a call that is a value has an output

abbrev pub HasOne : List Decl → Type 0
HasOne [] = ⊥
HasOne (o ∷ os) = ⊤

abbrev pub ByConstant : Option Const → Type 0 → Type 0 → Type 0
ByConstant None A G = A
ByConstant (Some c) A G = G

module _ (k : Known) (fill : Place → Value) where
  abbrev mutual
    pub Ready : Sight → Site → Expr → Prefix → Sketch → Type 0
    Ready see at (constant s c) here d = ⊤
    Ready see at (variable s x) here d = ⊤
    Ready see at (last_of s x) here d = ⊤
    Ready see at (one s o a) here d = Ready see at a (below First here) d
    Ready see at (two s o a b) here d = Ready see at a (below First here) d × Ready see at b (below Second here) (sketch_expr k see at a d).0
    Ready see at (choose s a b c) here d =
        Ready see at a (below First here) d × Ready see at b (below Second here) (sketch_expr k see at a d).0
        × Ready see at c (below Third here) (sketch_expr k see at b (sketch_expr k see at a d).0).0
    Ready see at (pre s a) here d = (fill (here []) ≡ first_value (type_at (sketch_expr k see at a d).0 (sketch_expr k see at a d).1)) × Ready see at a (below First here) d
    Ready see at (fby s a b) here d =
        ByConstant (constant_in a)
        (Ready see at a (below First here) d × Ready see at b (below Second here) (sketch_expr k see at a d).0
        × (fill (here []) ≡ first_value (type_at (sketch_expr k see at b (sketch_expr k see at a d).0).0 (sketch_expr k see at b (sketch_expr k see at a d).0).1)))
        (Ready see at b (below Second here) d)
    Ready see at (arrow s a b) here d = Ready see at a (below First here) d × Ready see at b (below Second here) (sketch_expr k see at a d).0
    Ready see at (when_is s a c x) here d = Ready see (off_site at) a (below First here) d
    Ready see at (merge s x ps) here d = let t = tested (see x).value d in ReadyParts see at t.1 None ps (below Args here) t.0
    Ready see at (call s f inlined es) here d = HasOne (outputs_of (k.nodes f)) × ReadyAll see at es (below Args here) d

    pub ReadyParts : Sight → Site → ℕ → Option ℕ → Parts → Prefix → Sketch → Type 0
    ReadyParts see at t merged no_part here d = ⊤
    ReadyParts see at t merged (more_parts c e ps) here d =
        let on = on_site at t (cons_number k c) in
        let m = part_at on merged (sketch_expr k see on e d) in
        Ready see on e (below Head here) d × ReadyParts see at t (Some m.1) ps (below Tail here) m.0

    pub ReadyAll : Sight → Site → Exprs → Prefix → Sketch → Type 0
    ReadyAll see at no_expr here d = ⊤
    ReadyAll see at (more_exprs e es) here d = Ready see at e (below Head here) d × ReadyAll see at es (below Tail here) (sketch_expr k see at e d).0

  -- the right side of an equation; what a call answers is bound to names, and needs no output
  abbrev pub ReadyRight : Sight → Site → Expr → Prefix → Sketch → Type 0
  ReadyRight see at (call s f inlined es) here d = ReadyAll see at es (below Args here) d
  ReadyRight see at e here d = Ready see at e here d

-- ---- blocks

module _ (F : FlatName → Option Rows) where
  -- What equations are made of, where names are seen so: the variables of the names that they define get rows, behind those that they have.
  pub record EqnsMade (means : ℕ → FlatName) (see : Sight) (defined : List ℕ → Bool) (rows : List ℕ → Rows) (d e : Sketch) (ck : When) (rs : List Place) : Type 0 where
    pub grown : next d ≤ next e
    pub kept : (y : ℕ) → y < next d → ((x : List ℕ) → defined x ≡ true → (see x).value ≡ Some y → ⊥) → defs e y ≡ defs d y
    pub own : (x : List ℕ) → defined x ≡ true → (y : ℕ) → y < next d → (see x).value ≡ Some y → (before : Rows) → AreRows means (defs d y) before → AreRows means (defs e y) (before ++ rows x)
    pub done : (y : ℕ) → next d ≤ y → y < next e → IsDone F means e y
    pub bounded : IsBounded e
    pub flag : IsFlagged means e.flag ck rs

-- no two names that are defined have one variable
abbrev pub AreApart : Sight → (List ℕ → Bool) → Type 0
AreApart see defined = (x z : List ℕ) (y : ℕ) → defined x ≡ true → defined z ≡ true → (see x).value ≡ Some y → (see z).value ≡ Some y → x ≡ z

-- the variables of names are there
abbrev pub AreThere : Sight → (List ℕ → Bool) → Sketch → Type 0
AreThere see defined d = (x : List ℕ) (y : ℕ) → defined x ≡ true → (see x).value ≡ Some y → y < next d
