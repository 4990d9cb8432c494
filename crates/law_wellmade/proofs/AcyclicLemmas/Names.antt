-- Names of a node whose chains of reads end, and places of parts of which this is so where it is of their sources.
use Rattle.std.proofs.Common.{◌≡◌, ℕ, Bool, true, false, List, [], ◌∷◌, refl}
use Rattle.std.specs.Prelude.{None, Some}
use Rattle.std.specs.List.{AllByRecursion}
use Rattle.hp_base.specs.declared.value.Value.{Value}
use Rattle.hp_base.specs.declared.value.Value.TheVariants.{B}
use Rattle.hp_tree.specs.Programs.{TypeDecl, Node}
use Rattle.hp_tree.specs.Instant.{Head, Tail, Right as RightOf, First, Second, Third, Args, Place, Clock, without}
use Rattle.hp_meaning.specs.Causal.Sources.{Sources, NameSources, PlaceSources, Within, at_one, at_two, at_three, at_row, at_merge, at_right}
use Rattle.hp_meaning.specs.Causal.WhatIsRead.{of_clock}
use Rattle.law_equations.specs.Flattened.Flat.{name, value, Register, Row, Flat}
use Rattle.law_equations.specs.Flattened.Flatten.{FlatName, At, IsFirst, Held, When, steps, ats, Rows, row, Plan, unless, plan_alone, plan_one, plan_two, plan_three, plan_row, plan_of_two, plan_right, Prefix, below, Scope, under, flatten}
use Rattle.law_wellmade.specs.Acyclic.Reading.{RowReads, Ends}
use Rattle.law_wellmade.proofs.AcyclicLemmas.Chains.{ends}

module _ (types : List TypeDecl) (outputs : List ℕ → List (List ℕ)) (fill : Place → Value) (n : Node) where
  abbrev pub rows_in : Flat FlatName
  rows_in = flatten types outputs fill n

  abbrev pub NameEnds : FlatName → Type 0
  NameEnds a = Ends rows_in a

  abbrev pub PlaceEnds : Place → Type 0
  PlaceEnds p = NameEnds (At p)

  -- the names that are read, and their last values
  abbrev pub Sees : NameSources → Scope → Type 0
  Sees names sc = (x : List ℕ) → Within PlaceEnds (names x) → NameEnds (sc x)

  abbrev pub LastsEnd : Scope → Type 0
  LastsEnd lsc = (x : List ℕ) → NameEnds (lsc x)

  -- a place that is a source is one of the node
  abbrev pub Reaches : PlaceSources → Prefix → Type 0
  Reaches k here = (p : Place) → Within PlaceEnds (k p) → NameEnds (At (here p))

  -- a part stands in the node
  abbrev pub Planned : Prefix → Plan Rows → Type 0
  Planned here plan = (p : Place) → rows_in (At (here p)) ≡ plan p

  abbrev pub WhenEnds : When → Type 0
  WhenEnds w = AllByRecursion (λ (on : Value × FlatName). NameEnds on.1) (steps w)

  abbrev pub RestartEnds : List Place → Type 0
  RestartEnds rs = AllByRecursion NameEnds (ats rs)

  -- the places of a part end where their sources do
  abbrev pub Solid : Prefix → PlaceSources → Type 0
  Solid here k = (p : Place) → Within PlaceEnds (k p) → NameEnds (At (here p))

  -- ---- rows

  pub no_rows : (a : FlatName) → rows_in a ≡ None → NameEnds a
  no_rows a e = ends rows_in a None e tt

  pub one_row : (a : FlatName) (r : Row FlatName) → rows_in a ≡ Some (r ∷ []) → RowReads NameEnds r → NameEnds a
  one_row a r e h = ends rows_in a (Some (r ∷ [])) e (h, tt)

  pub first_ends : (w : When) (rs : List Place) → WhenEnds w → RestartEnds rs → NameEnds (IsFirst w rs)
  first_ends w rs ws rest = one_row (IsFirst w rs) (row w rs (Register (B true) (value (B false)))) refl (ws, rest, tt)

  pub held_ends : (v : Value) (p : Place) (w : When) (rs : List Place) → WhenEnds w → RestartEnds rs → NameEnds (Held v p w rs)
  held_ends v p w rs ws rest = one_row (Held v p w rs) (row w rs (Register v (name (At p)))) refl (ws, rest, tt)

  -- ---- clocks

  pub under_ends : (clock : Clock) (names : NameSources) (sc : Scope) (ck : When) → Sees names sc → WhenEnds ck → Within PlaceEnds (of_clock clock names) → WhenEnds (under types sc clock ck)
  under_ends [] names sc ck see ws h = ws
  under_ends (step ∷ clock) names sc ck see ws h = (see step.1 h.0, under_ends clock names sc ck see ws h.1)

  pub without_within : (clock : Clock) (names : NameSources) → Within PlaceEnds (of_clock clock names) → Within PlaceEnds (of_clock (without clock) names)
  without_within [] names h = tt
  without_within (step ∷ clock) names h = h.1

  -- ---- places of parts

  pub solid_alone : (v : Rows) (s : Sources) (k : PlaceSources) (here : Prefix) → Planned here (plan_alone v) → (Within PlaceEnds s → NameEnds (At (here []))) → Solid here (at_one s k)
  solid_alone v s k here plan f [] h = f h
  solid_alone v s k here plan f (t ∷ p) h = no_rows (At (here (t ∷ p))) (plan (t ∷ p))

  pub solid_one : (v : Rows) (i : Plan Rows) (s : Sources) (k : PlaceSources) (here : Prefix) → Planned here (plan_one v i) → (Within PlaceEnds s → NameEnds (At (here []))) → Solid (below First here) k → Solid here (at_one s k)
  solid_one v i s k here plan f a [] h = f h
  solid_one v i s k here plan f a (First ∷ p) h = a p h
  solid_one v i s k here plan f a p h = no_rows (At (here p)) (plan p)

  pub solid_two : (v : Rows) (i j : Plan Rows) (s : Sources) (k l : PlaceSources) (here : Prefix) → Planned here (plan_two v i j) → (Within PlaceEnds s → NameEnds (At (here []))) → Solid (below First here) k → Solid (below Second here) l
      → Solid here (at_two s k l)
  solid_two v i j s k l here plan f a b [] h = f h
  solid_two v i j s k l here plan f a b (First ∷ p) h = a p h
  solid_two v i j s k l here plan f a b (Second ∷ p) h = b p h
  solid_two v i j s k l here plan f a b p h = no_rows (At (here p)) (plan p)

  pub solid_three : (v : Rows) (i j q : Plan Rows) (s : Sources) (k l m : PlaceSources) (here : Prefix) → Planned here (plan_three v i j q) → (Within PlaceEnds s → NameEnds (At (here []))) → Solid (below First here) k → Solid (below Second here) l
      → Solid (below Third here) m → Solid here (at_three s k l m)
  solid_three v i j q s k l m here plan f a b c [] h = f h
  solid_three v i j q s k l m here plan f a b c (First ∷ p) h = a p h
  solid_three v i j q s k l m here plan f a b c (Second ∷ p) h = b p h
  solid_three v i j q s k l m here plan f a b c (Third ∷ p) h = c p h
  solid_three v i j q s k l m here plan f a b c p h = no_rows (At (here p)) (plan p)

  pub solid_merge : (v : Rows) (i : Plan Rows) (s : Sources) (k : PlaceSources) (here : Prefix) → Planned here (plan_row v i) → (Within PlaceEnds s → NameEnds (At (here []))) → Solid (below Args here) k → Solid here (at_merge s k)
  solid_merge v i s k here plan f a [] h = f h
  solid_merge v i s k here plan f a (Args ∷ p) h = a p h
  solid_merge v i s k here plan f a p h = no_rows (At (here p)) (plan p)

  pub solid_row : (i j : Plan Rows) (k l : PlaceSources) (here : Prefix) → Planned here (plan_of_two i j) → Solid (below Head here) k → Solid (below Tail here) l → Solid here (at_row k l)
  solid_row i j k l here plan a b (Head ∷ p) h = a p h
  solid_row i j k l here plan a b (Tail ∷ p) h = b p h
  solid_row i j k l here plan a b p h = no_rows (At (here p)) (plan p)

  pub solid_right : (i : Plan Rows) (k : PlaceSources) (here : Prefix) → Planned here (plan_right i) → Solid (below RightOf here) k → Solid here (at_right k)
  solid_right i k here plan a (RightOf ∷ p) h = a p h
  solid_right i k here plan a p h = no_rows (At (here p)) (plan p)

  -- what is left out has no rows
  pub solid_unless : (b : Bool) (i : Plan Rows) (here : Prefix) (k : PlaceSources) → Planned here (unless b i) → (Planned here i → Solid here k) → Solid here k
  solid_unless true i here k plan f p h = no_rows (At (here p)) (plan p)
  solid_unless false i here k plan f p h = f plan p h
