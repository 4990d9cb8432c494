-- No chain leads from the places of an expression to an input that loops, where none does from their sources.
use Rattle.std.proofs.Common.{◌≡◌, ℕ, Bool, List, [], ◌∷◌, sym, subst}
use Rattle.std.specs.Prelude.{Option, None, Some, is_some}
use Rattle.std.specs.List.{AllByRecursion}
use Rattle.hp_base.specs.declared.span.Span.{Span}
use Rattle.hp_base.specs.declared.ty.Const.{Const}
use Rattle.hp_base.specs.declared.value.Value.{Value}
use Rattle.hp_obc.specs.declared.command.ObcOp.TheVariants.{Copy, Mux}
use Rattle.hp_tree.specs.Expressions.{Expr, constant, variable, last_of, one, two, choose, pre, fby, arrow, when_is, merge, call, Exprs, no_expr, more_exprs, Parts, no_part, more_parts}
use Rattle.hp_tree.specs.Programs.{TypeDecl, Node}
use Rattle.hp_tree.specs.Operators.{constant_of}
use Rattle.hp_tree.specs.Instant.{Head, Tail, First, Second, Third, Args, Instance, Named, Place, Clock, without}
use Rattle.hp_meaning.specs.Causal.Sources.{Sources, both, also, NameSources, PlaceSources, Within, below as under_step, at_call, nowhere}
use Rattle.hp_meaning.specs.Causal.WhatIsRead.{of_clock, of_expr, of_exprs, of_parts, at_expr, at_exprs, at_parts}
use Rattle.hp_meaning.specs.Causal.Clocked.{Standing, IsOn, ExprsOn, PartsOn}
use Rattle.law_equations.specs.Flattened.Flat.{name, value, Right, Op, Register}
use Rattle.law_equations.specs.Flattened.Flatten.{obc_one, obc_two, FlatName, At, IsFirst, Held, When, Rows, row, copies, constant_in, Plan, unless, plan_call, Prefix, below, Scope, under, args_at, parts_at, only_row, output_row, fby_row, flat_expr, flat_exprs, flat_parts}
use Rattle.law_wellmade.specs.Acyclic.Reading.{ArgReads, RightReads, RowReads}
use Rattle.law_wellmade.proofs.AcyclicLemmas.Chains.{ends}
use Rattle.law_choices.proofs.DependingLemmas.Names.{rows_in, NameEnds, PlaceEnds, Sees, LastsEnd, Reaches, Planned, WhenEnds, RestartEnds, Solid, no_rows, one_row, first_ends, held_ends, under_ends, without_within, solid_alone, solid_one, solid_two, solid_three, solid_merge, solid_row, solid_unless}
use Rattle.law_choices.proofs.DependingLemmas.CallLaws.{call_ends, outputs_end}

module _ (types : List TypeDecl) (outputs : List ℕ → List (List ℕ)) (fill : Place → Value) (n : Node) (loops : List ℕ → Bool) (away : Place → Type 0) where
  abbrev Ending : FlatName → Type 0
  Ending a = NameEnds types outputs fill n loops away a

  abbrev EndingPlace : Place → Type 0
  EndingPlace p = PlaceEnds types outputs fill n loops away p

  abbrev Stands : Prefix → Plan Rows → Type 0
  Stands here plan = Planned types outputs fill n loops away here plan

  abbrev Reach : PlaceSources → Prefix → Type 0
  Reach k here = Reaches types outputs fill n loops away k here

  abbrev AllEnding : Prefix → PlaceSources → Type 0
  AllEnding here k = Solid types outputs fill n loops away here k

  -- `a fby b` reads `a` only where it is no constant
  fby_ends : (o : Option Const) (here : Prefix) (w : When) (rs : List Place) (i : Plan Rows) → rows_in types outputs fill n loops away (At (here [])) ≡ Some (fby_row types outputs fill o here w rs ∷ [])
      → WhenEnds types outputs fill n loops away w → RestartEnds types outputs fill n loops away rs → Stands (below First here) (unless (is_some o) i) → (Stands (below First here) i → Ending (At (here (First ∷ [])))) → Ending (At (here []))
  fby_ends None here w rs i e ws rest plan f =
      one_row types outputs fill n loops away (At (here []))
      (row w rs (Op Mux (name (IsFirst w rs) ∷ name (At (here (First ∷ []))) ∷ name (Held (fill (here [])) (here (Second ∷ [])) w rs) ∷ []))) e
      (ws, rest, (first_ends types outputs fill n loops away w rs ws rest, (f plan, (held_ends types outputs fill n loops away (fill (here [])) (here (Second ∷ [])) w rs ws rest, tt))))
  fby_ends (Some c) here w rs i e ws rest plan f = one_row types outputs fill n loops away (At (here [])) (row w rs (Register (constant_of types c) (name (At (here (Second ∷ [])))))) e (ws, rest, tt)

  solid_call : (v : Option Rows) (i : Plan Rows) (outs : List ℕ → Option Rows) (s t : Sources) (k : PlaceSources) (here : Prefix) → Stands here (plan_call v i outs) → (Within EndingPlace s → Ending (At (here [])))
      → AllEnding (below Args here) k → (Within EndingPlace t → (x : List ℕ) → Ending (At (here (Instance ∷ Named x ∷ [])))) → AllEnding here (at_call s t k)
  solid_call v i outs s t k here plan f a g [] h = f h
  solid_call v i outs s t k here plan f a g (Args ∷ p) h = a p h
  solid_call v i outs s t k here plan f a g (Instance ∷ Named x ∷ []) h = g h x
  solid_call v i outs s t k here plan f a g p h = no_rows types outputs fill n loops away (At (here p)) (plan p)

  -- what stands around an expression
  module _ (names : NameSources) (sc lsc : Scope) (ck : When) (rs : List Place) (st : Standing) (sees : Sees types outputs fill n loops away names sc) (lasts : LastsEnd types outputs fill n loops away lsc)
      (ws : WhenEnds types outputs fill n loops away ck) (rest : RestartEnds types outputs fill n loops away rs) where
    abbrev Here : Expr → Clock → Prefix → Type 0
    Here e clock here = Stands here (flat_expr types outputs fill e clock sc lsc here ck rs)

    clock_ends : (clock : Clock) → Within EndingPlace (of_clock clock names) → WhenEnds types outputs fill n loops away (under types sc clock ck)
    clock_ends clock h = under_ends types outputs fill n loops away clock names sc ck sees ws h

    ends_by : (clock : Clock) (a : FlatName) (r : Right FlatName) → rows_in types outputs fill n loops away a ≡ Some (row (under types sc clock ck) rs r ∷ []) → Within EndingPlace (of_clock clock names) → RightReads Ending r → Ending a
    ends_by clock a r e c h = one_row types outputs fill n loops away a (row (under types sc clock ck) rs r) e (clock_ends clock c, rest, h)

    mutual
      -- an expression ends where what it reads does
      pub top : (e : Expr) (clock : Clock) (k : PlaceSources) (here : Prefix) → Reach k here → Here e clock here → Within EndingPlace (of_clock clock names) → Within EndingPlace (of_expr e names k) → Ending (At (here []))
      top (constant s c) clock k here reach plan ch h = ends_by clock (At (here [])) (Op Copy (value (constant_of types c) ∷ [])) (plan []) ch (tt, tt)
      top (variable s x) clock k here reach plan ch h = ends_by clock (At (here [])) (Op Copy (name (sc x) ∷ [])) (plan []) ch (sees x h, tt)
      top (last_of s x) clock k here reach plan ch h = ends_by clock (At (here [])) (Op Copy (name (lsc x) ∷ [])) (plan []) ch (lasts x, tt)
      top (one s o a) clock k here reach plan ch h =
          ends_by clock (At (here [])) (Op (obc_one o) (name (At (here (First ∷ []))) ∷ [])) (plan []) ch (top a clock (under_step First k) (below First here) (λ p. reach (First ∷ p)) (λ p. plan (First ∷ p)) ch h, tt)
      top (two s o a b) clock k here reach plan ch h =
          ends_by clock (At (here [])) (Op (obc_two o) (name (At (here (First ∷ []))) ∷ name (At (here (Second ∷ []))) ∷ [])) (plan []) ch (
            top a clock (under_step First k) (below First here) (λ p. reach (First ∷ p)) (λ p. plan (First ∷ p)) ch h.0,
            (top b clock (under_step Second k) (below Second here) (λ p. reach (Second ∷ p)) (λ p. plan (Second ∷ p)) ch h.1, tt),
          )
      top (choose s a b c) clock k here reach plan ch h =
          ends_by clock (At (here [])) (Op Mux (name (At (here (First ∷ []))) ∷ name (At (here (Second ∷ []))) ∷ name (At (here (Third ∷ []))) ∷ [])) (plan []) ch (
            top a clock (under_step First k) (below First here) (λ p. reach (First ∷ p)) (λ p. plan (First ∷ p)) ch h.0,
            (
              top b clock (under_step Second k) (below Second here) (λ p. reach (Second ∷ p)) (λ p. plan (Second ∷ p)) ch h.1.0,
              (top c clock (under_step Third k) (below Third here) (λ p. reach (Third ∷ p)) (λ p. plan (Third ∷ p)) ch h.1.1, tt),
            ),
          )
      top (pre s a) clock k here reach plan ch h = ends_by clock (At (here [])) (Register (fill (here [])) (name (At (here (First ∷ []))))) (plan []) ch tt
      top (fby s a b) clock k here reach plan ch h =
          fby_ends (constant_in a) here (under types sc clock ck) rs (flat_expr types outputs fill a clock sc lsc (below First here) ck rs) (plan []) (clock_ends clock ch) rest (λ p. plan (First ∷ p))
          (λ first. top a clock (under_step First k) (below First here) (λ p. reach (First ∷ p)) first ch h)
      top (arrow s a b) clock k here reach plan ch h =
          ends_by clock (At (here [])) (Op Mux (name (IsFirst (under types sc clock ck) rs) ∷ name (At (here (First ∷ []))) ∷ name (At (here (Second ∷ []))) ∷ [])) (plan []) ch (
            first_ends types outputs fill n loops away (under types sc clock ck) rs (clock_ends clock ch) rest,
            (
              top a clock (under_step First k) (below First here) (λ p. reach (First ∷ p)) (λ p. plan (First ∷ p)) ch h.0,
              (top b clock (under_step Second k) (below Second here) (λ p. reach (Second ∷ p)) (λ p. plan (Second ∷ p)) ch h.1, tt),
            ),
          )
      top (when_is s a c x) clock k here reach plan ch h =
          ends_by clock (At (here [])) (Op Copy (name (At (here (First ∷ []))) ∷ [])) (plan []) ch
          (top a (without clock) (under_step First k) (below First here) (λ p. reach (First ∷ p)) (λ p. plan (First ∷ p)) (without_within types outputs fill n loops away clock names ch) h.1, tt)
      top (merge s x ps) clock k here reach plan ch h =
          ends (rows_in types outputs fill n loops away) (At (here [])) (Some (parts_at types outputs fill ps x sc (below Args here) (under types sc clock ck) rs)) (plan [])
          (parts_top ps x clock (under_step Args k) (below Args here) (λ p. reach (Args ∷ p)) (λ p. plan (Args ∷ p)) ch h.0 h.1)
      top (call s f inlined es) clock k here reach plan ch h = reach [] h

      parts_top : (ps : Parts) (x : List ℕ) (clock : Clock) (k : PlaceSources) (here : Prefix) → Reach k here → Stands here (flat_parts types outputs fill ps x clock sc lsc here ck rs) → Within EndingPlace (of_clock clock names)
          → Within EndingPlace (names x) → Within EndingPlace (of_parts ps names k) → AllByRecursion (RowReads Ending) (parts_at types outputs fill ps x sc here (under types sc clock ck) rs)
      parts_top no_part x clock k here reach plan ch hx h = tt
      parts_top (more_parts c e ps) x clock k here reach plan ch hx h = (
        (
          (sees x hx, clock_ends clock ch),
          rest,
          (top e ((c, x) ∷ clock) (under_step Head k) (below Head here) (λ p. reach (Head ∷ p)) (λ p. plan (Head ∷ p)) (hx, ch) h.0, tt),
        ),
        parts_top ps x clock (under_step Tail k) (below Tail here) (λ p. reach (Tail ∷ p)) (λ p. plan (Tail ∷ p)) ch hx h.1,
      )

    args_end : (es : Exprs) (clock : Clock) (k : PlaceSources) (here : Prefix) → Reach k here → Stands here (flat_exprs types outputs fill es clock sc lsc here ck rs) → Within EndingPlace (of_clock clock names)
        → Within EndingPlace (of_exprs es names k) → AllByRecursion (ArgReads Ending) (args_at types outputs fill es here)
    args_end no_expr clock k here reach plan ch h = tt
    args_end (more_exprs e es) clock k here reach plan ch h = (
      top e clock (under_step Head k) (below Head here) (λ p. reach (Head ∷ p)) (λ p. plan (Head ∷ p)) ch h.0,
      args_end es clock (under_step Tail k) (below Tail here) (λ p. reach (Tail ∷ p)) (λ p. plan (Tail ∷ p)) ch h.1,
    )

    -- the outputs of a call end where the call does
    pub call_outputs : (s : Span) (f : List ℕ) (inlined : Bool) (es : Exprs) (clock : Clock) (here : Prefix) → Here (call s f inlined es) clock here → Ending (At (here [])) → (x : List ℕ) → Ending (At (here (Instance ∷ Named x ∷ [])))
    call_outputs s f inlined es clock here plan h x =
        outputs_end types outputs fill n loops away here (under types sc clock ck) rs f (args_at types outputs fill es (below Args here)) (flat_exprs types outputs fill es clock sc lsc (below Args here) ck rs) (outputs f) plan h x

    mutual
      -- so do all places in it
      pub whole : (e : Expr) (clock : Clock) (k : PlaceSources) (here : Prefix) → Reach k here → Here e clock here → IsOn st e clock → AllEnding here (at_expr e clock names k)
      whole (constant s c) clock k here reach plan is p h =
          solid_alone types outputs fill n loops away (row (under types sc clock ck) rs (Op Copy (value (constant_of types c) ∷ [])) ∷ []) (also (of_clock clock names)) nowhere here plan
          (λ u. top (constant s c) clock k here reach plan u tt) p h
      whole (variable s x) clock k here reach plan is p h =
          solid_alone types outputs fill n loops away (copies (under types sc clock ck) rs (sc x) ∷ []) (both (also (of_clock clock names)) (names x)) nowhere here plan (λ u. top (variable s x) clock k here reach plan u.0 u.1) p h
      whole (last_of s x) clock k here reach plan is [] h = top (last_of s x) clock k here reach plan (subst (λ c. Within EndingPlace (of_clock c names)) (sym is) tt) tt
      whole (last_of s x) clock k here reach plan is (t ∷ p) h = no_rows types outputs fill n loops away (At (here (t ∷ p))) (plan (t ∷ p))
      whole (one s o a) clock k here reach plan is p h =
          solid_one types outputs fill n loops away (row (under types sc clock ck) rs (Op (obc_one o) (name (At (here (First ∷ []))) ∷ [])) ∷ []) (flat_expr types outputs fill a clock sc lsc (below First here) ck rs)
          (both (also (of_clock clock names)) (of_expr (one s o a) names k)) (at_expr a clock names (under_step First k)) here plan (λ u. top (one s o a) clock k here reach plan u.0 u.1)
          (whole a clock (under_step First k) (below First here) (λ q. reach (First ∷ q)) (λ q. plan (First ∷ q)) is) p h
      whole (two s o a b) clock k here reach plan is p h =
          solid_two types outputs fill n loops away (row (under types sc clock ck) rs (Op (obc_two o) (name (At (here (First ∷ []))) ∷ name (At (here (Second ∷ []))) ∷ [])) ∷ [])
          (flat_expr types outputs fill a clock sc lsc (below First here) ck rs) (flat_expr types outputs fill b clock sc lsc (below Second here) ck rs)
          (both (also (of_clock clock names)) (of_expr (two s o a b) names k)) (at_expr a clock names (under_step First k)) (at_expr b clock names (under_step Second k)) here plan
          (λ u. top (two s o a b) clock k here reach plan u.0 u.1)
          (whole a clock (under_step First k) (below First here) (λ q. reach (First ∷ q)) (λ q. plan (First ∷ q)) is.0)
          (whole b clock (under_step Second k) (below Second here) (λ q. reach (Second ∷ q)) (λ q. plan (Second ∷ q)) is.1) p h
      whole (choose s a b c) clock k here reach plan is p h =
          solid_three types outputs fill n loops away (row (under types sc clock ck) rs (Op Mux (name (At (here (First ∷ []))) ∷ name (At (here (Second ∷ []))) ∷ name (At (here (Third ∷ []))) ∷ [])) ∷ [])
          (flat_expr types outputs fill a clock sc lsc (below First here) ck rs) (flat_expr types outputs fill b clock sc lsc (below Second here) ck rs) (flat_expr types outputs fill c clock sc lsc (below Third here) ck rs)
          (both (also (of_clock clock names)) (of_expr (choose s a b c) names k)) (at_expr a clock names (under_step First k)) (at_expr b clock names (under_step Second k)) (at_expr c clock names (under_step Third k)) here plan
          (λ u. top (choose s a b c) clock k here reach plan u.0 u.1)
          (whole a clock (under_step First k) (below First here) (λ q. reach (First ∷ q)) (λ q. plan (First ∷ q)) is.0)
          (whole b clock (under_step Second k) (below Second here) (λ q. reach (Second ∷ q)) (λ q. plan (Second ∷ q)) is.1)
          (whole c clock (under_step Third k) (below Third here) (λ q. reach (Third ∷ q)) (λ q. plan (Third ∷ q)) is.2) p h
      whole (pre s a) clock k here reach plan is p h =
          solid_one types outputs fill n loops away (row (under types sc clock ck) rs (Register (fill (here [])) (name (At (here (First ∷ []))))) ∷ []) (flat_expr types outputs fill a clock sc lsc (below First here) ck rs)
          (also (of_clock clock names)) (at_expr a clock names (under_step First k)) here plan (λ u. top (pre s a) clock k here reach plan u tt)
          (whole a clock (under_step First k) (below First here) (λ q. reach (First ∷ q)) (λ q. plan (First ∷ q)) is) p h
      whole (fby s a b) clock k here reach plan is p h =
          solid_two types outputs fill n loops away (fby_row types outputs fill (constant_in a) here (under types sc clock ck) rs ∷ [])
          (unless (is_some (constant_in a)) (flat_expr types outputs fill a clock sc lsc (below First here) ck rs)) (flat_expr types outputs fill b clock sc lsc (below Second here) ck rs)
          (both (also (of_clock clock names)) (of_expr (fby s a b) names k)) (at_expr a clock names (under_step First k)) (at_expr b clock names (under_step Second k)) here plan
          (λ u. top (fby s a b) clock k here reach plan u.0 u.1)
          (solid_unless types outputs fill n loops away (is_some (constant_in a)) (flat_expr types outputs fill a clock sc lsc (below First here) ck rs) (below First here) (at_expr a clock names (under_step First k)) (λ q. plan (First ∷ q))
          (λ first. whole a clock (under_step First k) (below First here) (λ q. reach (First ∷ q)) first is.0))
          (whole b clock (under_step Second k) (below Second here) (λ q. reach (Second ∷ q)) (λ q. plan (Second ∷ q)) is.1) p h
      whole (arrow s a b) clock k here reach plan is p h =
          solid_two types outputs fill n loops away (row (under types sc clock ck) rs (Op Mux (name (IsFirst (under types sc clock ck) rs) ∷ name (At (here (First ∷ []))) ∷ name (At (here (Second ∷ []))) ∷ [])) ∷ [])
          (flat_expr types outputs fill a clock sc lsc (below First here) ck rs) (flat_expr types outputs fill b clock sc lsc (below Second here) ck rs)
          (both (also (of_clock clock names)) (of_expr (arrow s a b) names k)) (at_expr a clock names (under_step First k)) (at_expr b clock names (under_step Second k)) here plan
          (λ u. top (arrow s a b) clock k here reach plan u.0 u.1)
          (whole a clock (under_step First k) (below First here) (λ q. reach (First ∷ q)) (λ q. plan (First ∷ q)) is.0)
          (whole b clock (under_step Second k) (below Second here) (λ q. reach (Second ∷ q)) (λ q. plan (Second ∷ q)) is.1) p h
      whole (when_is s a c x) clock k here reach plan is p h =
          solid_one types outputs fill n loops away (copies (under types sc clock ck) rs (At (here (First ∷ []))) ∷ []) (flat_expr types outputs fill a (without clock) sc lsc (below First here) ck rs)
          (both (also (of_clock clock names)) (of_expr (when_is s a c x) names k)) (at_expr a (without clock) names (under_step First k)) here plan (λ u. top (when_is s a c x) clock k here reach plan u.0 u.1)
          (whole a (without clock) (under_step First k) (below First here) (λ q. reach (First ∷ q)) (λ q. plan (First ∷ q)) is.2) p h
      whole (merge s x ps) clock k here reach plan is p h =
          solid_merge types outputs fill n loops away (parts_at types outputs fill ps x sc (below Args here) (under types sc clock ck) rs) (flat_parts types outputs fill ps x clock sc lsc (below Args here) ck rs)
          (both (also (of_clock clock names)) (of_expr (merge s x ps) names k)) (at_parts ps x clock names (under_step Args k)) here plan (λ u. top (merge s x ps) clock k here reach plan u.0 u.1)
          (whole_parts ps x clock (under_step Args k) (below Args here) (λ q. reach (Args ∷ q)) (λ q. plan (Args ∷ q)) is.1) p h
      whole (call s f inlined es) clock k here reach plan is p h =
          let args = args_at types outputs fill es (below Args here) in
          let w = under types sc clock ck in
          let inner = flat_exprs types outputs fill es clock sc lsc (below Args here) ck rs in
          solid_call (only_row types outputs fill (outputs f) here w rs) inner (output_row types outputs fill 0 (outputs f) w rs f args)
          (both (also (of_clock clock names)) (of_exprs es names (under_step Args k))) (both (also (of_clock clock names)) (k [])) (at_exprs es clock names (under_step Args k)) here plan
          (λ u. call_ends types outputs fill n loops away here w rs f args inner (outputs f) plan (clock_ends clock u.0) rest (args_end es clock (under_step Args k) (below Args here) (λ q. reach (Args ∷ q)) (λ q. plan (Args ∷ q)) u.0 u.1))
          (whole_all es clock (under_step Args k) (below Args here) (λ q. reach (Args ∷ q)) (λ q. plan (Args ∷ q)) is)
          (λ u x. outputs_end types outputs fill n loops away here w rs f args inner (outputs f) plan (reach [] u.1) x) p h

      whole_all : (es : Exprs) (clock : Clock) (k : PlaceSources) (here : Prefix) → Reach k here → Stands here (flat_exprs types outputs fill es clock sc lsc here ck rs) → ExprsOn st es clock → AllEnding here (at_exprs es clock names k)
      whole_all no_expr clock k here reach plan is p h = no_rows types outputs fill n loops away (At (here p)) (plan p)
      whole_all (more_exprs e es) clock k here reach plan is p h =
          solid_row types outputs fill n loops away (flat_expr types outputs fill e clock sc lsc (below Head here) ck rs) (flat_exprs types outputs fill es clock sc lsc (below Tail here) ck rs)
          (at_expr e clock names (under_step Head k)) (at_exprs es clock names (under_step Tail k)) here plan
          (whole e clock (under_step Head k) (below Head here) (λ q. reach (Head ∷ q)) (λ q. plan (Head ∷ q)) is.0)
          (whole_all es clock (under_step Tail k) (below Tail here) (λ q. reach (Tail ∷ q)) (λ q. plan (Tail ∷ q)) is.1) p h

      whole_parts : (ps : Parts) (x : List ℕ) (clock : Clock) (k : PlaceSources) (here : Prefix) → Reach k here → Stands here (flat_parts types outputs fill ps x clock sc lsc here ck rs) → PartsOn st x ps clock
          → AllEnding here (at_parts ps x clock names k)
      whole_parts no_part x clock k here reach plan is p h = no_rows types outputs fill n loops away (At (here p)) (plan p)
      whole_parts (more_parts c e ps) x clock k here reach plan is p h =
          solid_row types outputs fill n loops away (flat_expr types outputs fill e ((c, x) ∷ clock) sc lsc (below Head here) ck rs) (flat_parts types outputs fill ps x clock sc lsc (below Tail here) ck rs)
          (at_expr e ((c, x) ∷ clock) names (under_step Head k)) (at_parts ps x clock names (under_step Tail k)) here plan
          (whole e ((c, x) ∷ clock) (under_step Head k) (below Head here) (λ q. reach (Head ∷ q)) (λ q. plan (Head ∷ q)) is.0)
          (whole_parts ps x clock (under_step Tail k) (below Tail here) (λ q. reach (Tail ∷ q)) (λ q. plan (Tail ∷ q)) is.1) p h
