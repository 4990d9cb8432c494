-- No chain leads from what equations give to a name to an input that loops, where none does from the sources of its definition.
use Rattle.std.proofs.Common.{ℕ, Bool, true, false, if◌then◌else◌, List, [], ◌∷◌, refl}
use Rattle.std.specs.Prelude.{Option, None, Some}
use Rattle.std.specs.Str.{bytes_eq}
use Rattle.std.specs.List.{AllByRecursion}
use Rattle.hp_base.specs.declared.span.Span.{Span}
use Rattle.hp_base.specs.declared.ty.Const.{Const}
use Rattle.hp_base.specs.declared.value.Value.{Value}
use Rattle.hp_tree.specs.Expressions.{Expr, call}
use Rattle.hp_tree.specs.Blocks.{Decl, Eqns, no_eqn, more_eqns, Eqn, define, switch, reset, automaton, Arms, no_arm, more_arms}
use Rattle.hp_tree.specs.Programs.{TypeDecl, Node}
use Rattle.hp_tree.specs.Operators.{constant_of}
use Rattle.hp_tree.specs.Instant.{Body as BodyOf, Named, Head, Tail, Right as RightOf, Test, Arms as ArmsOf, Instance, Place, Clock}
use Rattle.hp_tree.specs.Meaning.{defines, some_defines, block_defines, clock_of}
use Rattle.hp_meaning.specs.Causal.Sources.{none, NameSources, PlaceSources, Within, below as under_step}
use Rattle.hp_meaning.specs.Causal.WhatIsRead.{of_clock, of_expr, names_in, names_within, in_arms, of_definition, of_definitions}
use Rattle.hp_meaning.specs.Causal.Clocked.{Standing}
use Rattle.law_equations.specs.Flattened.Flatten.{FlatName, At, Nowhere, Held, When, Rows, Plan, Prefix, below, Scope, inside_at, within_at, lasts_at, flat_expr, output_at, right_at, arms_rows, flat_gives, flat_defined, flat_equations, flat_equation}
use Rattle.law_wellmade.specs.Acyclic.Reading.{RowReads}
use Rattle.law_choices.proofs.DependingLemmas.Names.{NameEnds, PlaceEnds, Sees, LastsEnd, Reaches, Planned, WhenEnds, RestartEnds, no_rows, held_ends, under_ends}
use Rattle.law_choices.proofs.DependingLemmas.ExpressionLaws.{top, call_outputs}

module _ (types : List TypeDecl) (outputs : List ℕ → List (List ℕ)) (fill : Place → Value) (n : Node) (loops : List ℕ → Bool) (away : Place → Type 0) where
  abbrev Ending : FlatName → Type 0
  Ending a = NameEnds types outputs fill n loops away a

  abbrev EndingPlace : Place → Type 0
  EndingPlace p = PlaceEnds types outputs fill n loops away p

  abbrev Stands : Prefix → Plan Rows → Type 0
  Stands here plan = Planned types outputs fill n loops away here plan

  abbrev Reach : PlaceSources → Prefix → Type 0
  Reach k here = Reaches types outputs fill n loops away k here

  abbrev RowsEnd : Rows → Type 0
  RowsEnd rows = AllByRecursion (RowReads Ending) rows

  -- what stands around a part ends: the names that are read, their last values, the clock and the restarts
  pub record Around (names : NameSources) (sc lsc : Scope) (ck : When) (rs : List Place) : Type 0 where
    pub sees : Sees types outputs fill n loops away names sc
    pub lasts : LastsEnd types outputs fill n loops away lsc
    pub clock : WhenEnds types outputs fill n loops away ck
    pub restart : RestartEnds types outputs fill n loops away rs

  -- ---- names

  pub lasts_in : (ds : List Decl) (lsc : Scope) (here : Prefix) (ck : When) (rs : List Place) → LastsEnd types outputs fill n loops away lsc → WhenEnds types outputs fill n loops away ck → RestartEnds types outputs fill n loops away rs
      → LastsEnd types outputs fill n loops away (lasts_at types ds lsc here ck rs)
  lasts_in [] lsc here ck rs lasts ws rest x = lasts x
  lasts_in (d ∷ ds) lsc here ck rs lasts ws rest x = by (bytes_eq d.name x) d.last (lasts_in ds lsc here ck rs lasts ws rest x)
    where
      by : (b : Bool) (o : Option Const) → Ending (lasts_at types ds lsc here ck rs x)
          → Ending (if b then (elim o [ None ↦ lsc x | Some c ↦ Held (constant_of types c) (here (Named x ∷ [])) ck rs ]) else lasts_at types ds lsc here ck rs x)
      by true None h = lasts x
      by true (Some c) h = held_ends types outputs fill n loops away (constant_of types c) (here (Named x ∷ [])) ck rs ws rest
      by false o h = h

  sees_in : (es : Eqns) (names : NameSources) (sc : Scope) (k : PlaceSources) (here : Prefix) → Sees types outputs fill n loops away names sc → Reach k here → Sees types outputs fill n loops away (names_in es names k) (inside_at es sc here)
  sees_in es names sc k here sees reach x h = by (some_defines es x) h
    where
      by : (b : Bool) → Within EndingPlace (if b then k (Named x ∷ []) else names x) → Ending (if b then At (here (Named x ∷ [])) else sc x)
      by true u = reach (Named x ∷ []) u
      by false u = sees x u

  sees_within : (e : Eqn) (names : NameSources) (sc lsc : Scope) → Sees types outputs fill n loops away names sc → LastsEnd types outputs fill n loops away lsc → Sees types outputs fill n loops away (names_within e names) (within_at e sc lsc)
  sees_within e names sc lsc sees lasts x h = by (defines e x) h
    where
      by : (b : Bool) → Within EndingPlace (if b then none else names x) → Ending (if b then lsc x else sc x)
      by true u = lasts x
      by false u = sees x u

  -- in a block
  pub around_in : (ds : List Decl) (es : Eqns) (names : NameSources) (sc lsc : Scope) (k : PlaceSources) (here : Prefix) (ck : When) (rs : List Place) → Around names sc lsc ck rs → Reach k here
      → Around (names_in es names k) (inside_at es sc here) (lasts_at types ds lsc here ck rs) ck rs
  around_in ds es names sc lsc k here ck rs a reach = record {
    sees = sees_in es names sc k here a.sees reach;
    lasts = lasts_in ds lsc here ck rs a.lasts a.clock a.restart;
    clock = a.clock;
    restart = a.restart;
  }

  -- in the parts of a control equation
  pub around_within : (e : Eqn) (names : NameSources) (sc lsc : Scope) (ck : When) (rs : List Place) → Around names sc lsc ck rs → Around (names_within e names) (within_at e sc lsc) lsc ck rs
  around_within e names sc lsc ck rs a = record { sees = sees_within e names sc lsc a.sees a.lasts; lasts = a.lasts; clock = a.clock; restart = a.restart }

  -- ---- right sides

  output_ends : (ys : List (List ℕ × Span)) (os : List (List ℕ)) (here : Prefix) (x : List ℕ) → ((o : List ℕ) → Ending (At (here (Instance ∷ Named o ∷ [])))) → Ending (output_at types outputs fill ys os here x)
  output_ends [] os here x f = no_rows types outputs fill n loops away Nowhere refl
  output_ends (y ∷ ys) [] here x f = no_rows types outputs fill n loops away Nowhere refl
  output_ends (y ∷ ys) (o ∷ os) here x f = by (bytes_eq y.0 x) (output_ends ys os here x f)
    where
      by : (b : Bool) → Ending (output_at types outputs fill ys os here x) → Ending (if b then At (here (Instance ∷ Named o ∷ [])) else output_at types outputs fill ys os here x)
      by true h = f o
      by false h = h

  module _ (names : NameSources) (sc lsc : Scope) (ck : When) (rs : List Place) (st : Standing) (a : Around names sc lsc ck rs) where
    -- an expression at its place
    pub read_ends : (e : Expr) (clock : Clock) (k : PlaceSources) (here : Prefix) → Reach k here → Stands here (flat_expr types outputs fill e clock sc lsc here ck rs) → Within EndingPlace (of_clock clock names)
        → Within EndingPlace (of_expr e names k) → Ending (At (here []))
    read_ends e clock k here reach plan ch h = top types outputs fill n loops away names sc lsc ck rs st a.sees a.lasts a.clock a.restart e clock k here reach plan ch h

    right_ends : (ys : List (List ℕ × Span)) (e : Expr) (clock : Clock) (k : PlaceSources) (here : Prefix) → Reach k here → Stands here (flat_expr types outputs fill e clock sc lsc here ck rs) → Within EndingPlace (of_clock clock names)
        → Within EndingPlace (of_expr e names k) → (x : List ℕ) → Ending (right_at types outputs fill ys e here x)
    right_ends ys (call s f inlined es) clock k here reach plan ch h x =
        output_ends ys (outputs f) here x (call_outputs types outputs fill n loops away names sc lsc ck rs st a.sees a.lasts a.clock a.restart s f inlined es clock here plan (reach [] h))
    right_ends ys e clock k here reach plan ch h x = read_ends e clock k here reach plan ch h

    -- what the arms give
    arm_rows : (arms : Arms) (test : FlatName) (k : PlaceSources) (here : Prefix) → Ending test → Reach k here → (x : List ℕ) → Within EndingPlace (in_arms arms k x) → RowsEnd (arms_rows types outputs fill arms test lsc here ck rs x)
    arm_rows no_arm test k here t reach x h = tt
    arm_rows (more_arms c b s arms) test k here t reach x h = (
      ((t, a.clock), a.restart, (by (block_defines b x) h.0, tt)),
      arm_rows arms test (under_step Tail k) (below Tail here) t (λ p. reach (Tail ∷ p)) x h.1,
    )
      where
        by : (d : Bool) → Within EndingPlace (if d then k (Head ∷ Named x ∷ []) else none) → Ending (if d then At (here (Head ∷ Named x ∷ [])) else lsc x)
        by true u = reach (Head ∷ Named x ∷ []) u
        by false u = a.lasts x

    gives : (ds : List Decl) (e : Eqn) (k : PlaceSources) (here : Prefix) → Reach k here → Stands here (flat_equation types outputs fill ds e sc lsc here ck rs) → (x : List ℕ) → Within EndingPlace (of_definition ds e names k x)
        → RowsEnd (flat_gives types outputs fill ds e sc lsc here ck rs x)
    gives ds (define s ys e) k here reach plan x h = (
      (
        under_ends types outputs fill n loops away (clock_of ds ys e) names sc ck a.sees a.clock h.0,
        a.restart,
        (right_ends ys e (clock_of ds ys e) (under_step RightOf k) (below RightOf here) (λ p. reach (RightOf ∷ p)) (λ p. plan (RightOf ∷ p)) h.0 h.1 x, tt),
      ),
      tt,
    )
    gives ds (switch s e arms) k here reach plan x h =
        arm_rows arms (At (here (Test ∷ []))) (under_step ArmsOf k) (below ArmsOf here)
        (read_ends e [] (under_step Test k) (below Test here) (λ p. reach (Test ∷ p)) (λ p. plan (Test ∷ p)) tt h.0) (λ p. reach (ArmsOf ∷ p)) x h.1
    gives ds (reset s b e) k here reach plan x h = ((a.clock, a.restart, (reach (BodyOf ∷ Named x ∷ []) h.1, tt)), tt)
    gives ds (automaton s ss) k here reach plan x h = tt

    -- Each name that equations define has rows that end.
    pub defined_ends : (ds : List Decl) (es : Eqns) (k : PlaceSources) (here : Prefix) → Reach k here → Stands here (flat_equations types outputs fill ds es sc lsc here ck rs) → (x : List ℕ)
        → Within EndingPlace (of_definitions ds es names k x) → RowsEnd (flat_defined types outputs fill ds es sc lsc here ck rs x)
    defined_ends ds no_eqn k here reach plan x h = tt
    defined_ends ds (more_eqns e es) k here reach plan x h =
        by (defines e x) (gives ds e (under_step Head k) (below Head here) (λ p. reach (Head ∷ p)) (λ p. plan (Head ∷ p)) x)
        (defined_ends ds es (under_step Tail k) (below Tail here) (λ p. reach (Tail ∷ p)) (λ p. plan (Tail ∷ p)) x) h
      where
        by : (d : Bool) → (Within EndingPlace (of_definition ds e names (under_step Head k) x) → RowsEnd (flat_gives types outputs fill ds e sc lsc (below Head here) ck rs x))
            → (Within EndingPlace (of_definitions ds es names (under_step Tail k) x) → RowsEnd (flat_defined types outputs fill ds es sc lsc (below Tail here) ck rs x))
            → Within EndingPlace (if d then of_definition ds e names (under_step Head k) x else of_definitions ds es names (under_step Tail k) x)
            → RowsEnd (if d then flat_gives types outputs fill ds e sc lsc (below Head here) ck rs x else flat_defined types outputs fill ds es sc lsc (below Tail here) ck rs x)
        by true f g u = f u
        by false f g u = g u
