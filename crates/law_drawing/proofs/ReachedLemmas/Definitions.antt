-- What is drawn of definitions and of transitions reads all that they read.
use Rattle.std.proofs.Common.{◌≡◌, ℕ, ◌+◌, ◌<◌, ◌≤◌, Bool, true, false, ◌||◌, List, [], ◌∷◌, length, refl, sym, subst, arith}
use Rattle.std.specs.Prelude.{◌⊎◌}
use Rattle.std.specs.Str.{bytes_eq}
use Rattle.hp_base.specs.declared.span.Span.{Span}
use Rattle.hp_tree.specs.declared.block.Trans.{Trans}
use Rattle.hp_tree.specs.Blocks.{Decl}
use Rattle.hp_tree.specs.Expressions.{Expr, constant, variable, last_of, one, two, choose, pre, fby, arrow, when_is, merge, call, Exprs}
use Rattle.hp_tree.specs.Instant.{Head, Tail, Args, Instance, Named, Place, Clock}
use Rattle.hp_tree.specs.Meaning.{is_among}
use Rattle.hp_tree.specs.Programs.{Node}
use Rattle.hp_meaning.specs.Causal.Sources.{Sources, only, both, also, NameSources, PlaceSources}
use Rattle.hp_meaning.specs.Causal.WhatIsRead.{of_clock, of_expr, of_exprs, at_expr, at_exprs, of_conditions, at_conditions}
use Rattle.hp_drawing.specs.declared.parts.Callee.{Callee}
use Rattle.hp_drawing.specs.declared.parts.Jump.{Jump}
use Rattle.hp_drawing.specs.declared.parts.Place.{Place as Spot}
use Rattle.hp_drawing.specs.declared.parts.Value.{Value}
use Rattle.hp_drawing.specs.Told.{Told}
use Rattle.hp_drawing.specs.Sketch.{Sketch}
use Rattle.hp_drawing.specs.Places.{on_clock, jump_hole, transition}
use Rattle.hp_drawing.specs.Scopes.{Scope, value_in}
use Rattle.hp_drawing.specs.DrawnExpressions.{Brings, drawn, drawn_args, begin_call, output}
use Rattle.hp_drawing.specs.DrawnBlocks.{Words, clock_of, define_name, define_each, define_all, drawn_right, drawn_definition, drawn_transitions, drawn_jump}
use Rattle.law_drawing.proofs.CarryingLemmas.Layers.{same-name}
use Rattle.law_drawing.specs.Steered.Placed.{Held, Placed, DefinitionPlaced, ConditionsPlaced, JumpPlaced}
use Rattle.law_drawing.specs.Steered.Asked.{RightFits, CallsFit, ConditionsFit}
use Rattle.law_drawing.proofs.EarlyLemmas.Running.{clock_of-runs, each-runs, all-run, transition-runs, jump_hole-runs, jump_end-runs}
use Rattle.law_drawing.proofs.EarlyLemmas.Walk.{standing}
use Rattle.law_drawing.proofs.ReachedLemmas.Closed.{running}
use Rattle.law_drawing.proofs.ReachedLemmas.Steps.{define-gives, transition-gives}
use Rattle.law_drawing.proofs.ReachedLemmas.Whereabouts.{Said, Holds, row-holds, call-holds}
use Rattle.law_drawing.proofs.ReachedLemmas.Wires.{ExprWires, ArgsWires, ConditionsWires, JumpWires}
use Rattle.law_drawing.proofs.ReachedLemmas.Expressions.{leading, L, Early, R, Shut, SlotsRight, NamesLead, IsOwn, Reached, out, on, either, top, nothing-read, BringsRun, call-run, args-done, expr-done}

module _ (S : ℕ → Type 0) (T : Place → Type 0) (n : Node) (place : ℕ → Place) (t : Told) (brings : Brings) (held : Place → Held) (b : BringsRun S T n place t brings) where
  abbrev Runs : Sketch → Sketch → Type 0
  Runs = R S T n place

  abbrev Ends : Sketch → Type 0
  Ends s = Shut S T n place s

  abbrev Leads : Sources → Type 0
  Leads s = L S T n place s

  -- ---- names that are defined

  name-of : (z : Scope) (y x : List ℕ) → bytes_eq y x ≡ true → S (value_in z y).wire → S (value_in z x).wire
  name-of z y x q = subst (λ i. S (value_in z i).wire) (same-name y x q)

  all-gives : (z : Scope) (xs : List (List ℕ × Span)) (v : Value) (s : Sketch) (x : List ℕ) → is_among xs x ≡ true → Ends (define_all z xs v s) → S v.wire → S (value_in z x).wire
  all-gives z [] v s x m c k = absurd cc
  all-gives z (p ∷ ps) v s x m c k = by (bytes_eq p.0 x) refl m (λ r. all-gives z ps v (define_name z p.0 v s) x r c k)
    where
      by : (i : Bool) → bytes_eq p.0 x ≡ i → i || is_among ps x ≡ true → (is_among ps x ≡ true → S (value_in z x).wire) → S (value_in z x).wire
      by true q r more = name-of z p.0 x q (define-gives S (value_in z p.0).wire v s ((all-run Runs (running S (Early S T n place)) z ps v (define_name z p.0 v s)).closed c) k)
      by false q r more = more r

  output-wire : (d : Callee) (k : ℕ) (s : Sketch) → (output d k s).wire ≡ d.outputs + k
  unfolding output
  output-wire d k s = refl

  each-gives : (z : Scope) (d : Callee) (k : ℕ) (xs : List (List ℕ × Span)) (s : Sketch) (x : List ℕ) → is_among xs x ≡ true → ((j : ℕ) → j < k + length xs → S (d.outputs + j)) → Ends (define_each z d k xs s) → S (value_in z x).wire
  each-gives z d k [] s x m f c = absurd cc
  each-gives z d k (p ∷ ps) s x m f c =
      by (bytes_eq p.0 x) refl m (λ r. each-gives z d (k + 1) ps one x r (λ j l. f j (omega (arith, l))) c)
    where
      one : Sketch
      one = define_name z p.0 (output d k s) s

      by : (i : Bool) → bytes_eq p.0 x ≡ i → i || is_among ps x ≡ true → (is_among ps x ≡ true → S (value_in z x).wire) → S (value_in z x).wire
      by true q r more = name-of z p.0 x q (define-gives S (value_in z p.0).wire (output d k s) s ((each-runs Runs (running S (Early S T n place)) z d (k + 1) ps one).closed c) (subst S (sym (output-wire d k s)) (f k (omega arith))))
      by false q r more = more r

  -- ---- right sides

  pub record Defined (C : Type 0) (s s' : Sketch) (z : Scope) (xs : List (List ℕ × Span)) (value : Sources) (reads : PlaceSources) (wires : Said) : Type 0 where
    pub shut : Ends s
    pub slots : SlotsRight S T n place s → SlotsRight S T n place s'
    pub given : (x : List ℕ) → is_among xs x ≡ true → Leads value → C ⊎ S (value_in z x).wire
    pub placed : Holds (leading T) C reads wires

  -- an expression that is no call
  single-done : (e : Expr) (C : Type 0) (z : Scope) (names : NameSources) (clock : Clock) (at : Place → Place) (spot : Spot) (xs : List (List ℕ × Span)) (s : Sketch) → CallsFit t e → NamesLead S T n place C z names → Reached S T n place C at (ExprWires S t brings z spot e s)
      → IsOwn S T n place C spot (λ q. Placed (standing place q) t brings (held q) z spot e (λ p. only (at p)) s) at (at_expr e clock names (λ p. only (at p))) → (let d = drawn t brings z spot e s in Ends (define_all z xs d.0 d.1))
      → (let d = drawn t brings z spot e s in Defined C s (define_all z xs d.0 d.1) z xs (of_expr e names (λ p. only (at p))) (at_expr e clock names (λ p. only (at p))) (ExprWires S t brings z spot e s))
  single-done e C z names clock at spot xs s fit named h own c =
      let d = drawn t brings z spot e s in
      let r = all-run Runs (running S (Early S T n place)) z xs d.0 d.1 in
      let u = expr-done S T n place t brings held b e C z names clock at spot s fit named h own (r.closed c) in
      record { shut = u.shut; slots = λ k. r.slots (u.slots k); given = λ x m l. on S T n place C d.0.wire (value_in z x).wire (all-gives z xs d.0 d.1 x m c) (u.valued l); placed = u.placed }

  abbrev RightLaw : Expr → Type 1
  RightLaw e =
      (C : Type 0) (z : Scope) (names : NameSources) (clock : Clock) (at : Place → Place) (spot : Spot) (xs : List (List ℕ × Span)) (s : Sketch) → RightFits t e xs → NamesLead S T n place C z names → Reached S T n place C at (ExprWires S t brings z spot e s)
      → IsOwn S T n place C spot (λ q. Placed (standing place q) t brings (held q) z spot e (λ p. only (at p)) s) at (at_expr e clock names (λ p. only (at p))) → Ends (drawn_right t brings z spot xs e s)
      → Defined C s (drawn_right t brings z spot xs e s) z xs (of_expr e names (λ p. only (at p))) (at_expr e clock names (λ p. only (at p))) (ExprWires S t brings z spot e s)

  called-right : (q : Span) (i : List ℕ) (inlined : Bool) (es : Exprs) → RightLaw (call q i inlined es)
  called-right q i inlined es C z names clock at spot xs s fit named h own c =
      let m = begin_call t brings spot i s in
      let d = drawn_args t brings z spot m.0 0 es m.1 in
      let ka : PlaceSources = λ p. only (at (Args ∷ p)) in
      let r = each-runs Runs (running S (Early S T n place)) z m.0 0 xs d in
      let u = args-done S T n place t brings held b es C z names clock m.0 0 (λ p. at (Args ∷ p)) spot m.1 fit.2 named (λ p. h (Args ∷ p)) (λ o. let x = own o in (λ q. (x.0 q).1, λ p. x.1 (Args ∷ p), x.2)) (r.closed c) in
      let g =
      call-run S T n place t brings held b i fit.0.node spot at s fit.0.found
      (λ o. let x = own o in (λ q. (x.0 q).0, λ y l. out S T n place C x.2 (top S T n place C (S m.0.reads) (of_clock clock names) (only (at [])) (h []) (x.1 (Instance ∷ Named y ∷ []) l)))) u.shut in
      record {
        shut = g.0;
        slots = λ k. r.slots (u.slots (g.1 k));
        given = λ x a l. on S T n place C m.0.reads (value_in z x).wire (λ k. each-gives z m.0 0 xs d x a (λ j f. g.2 j (within j (length xs) (length fit.0.node.outputs) f fit.1) k) c) (h [] l);
        placed = call-holds (leading T) C (both (also (of_clock clock names)) (of_exprs es names ka)) (both (also (of_clock clock names)) (only (at []))) (at_exprs es clock names ka) (S m.0.reads) (ArgsWires S t brings z spot m.0 0 es m.1)
            (top S T n place C (S m.0.reads) (of_clock clock names) (of_exprs es names ka) u.valued) u.placed;
      }
    where
      within : (j k m : ℕ) → j < 0 + k → k ≤ m → j < m
      within j k m f g = omega (arith, f, g)

  right-done : (e : Expr) → RightLaw e
  right-done (call q i inlined es) = called-right q i inlined es
  right-done (constant q i) = single-done (constant q i)
  right-done (variable q i) = single-done (variable q i)
  right-done (last_of q i) = single-done (last_of q i)
  right-done (one q o a) = single-done (one q o a)
  right-done (two q o a d) = single-done (two q o a d)
  right-done (choose q a d e) = single-done (choose q a d e)
  right-done (pre q a) = single-done (pre q a)
  right-done (fby q a d) = single-done (fby q a d)
  right-done (arrow q a d) = single-done (arrow q a d)
  right-done (when_is q a i x) = single-done (when_is q a i x)
  right-done (merge q x ps) = single-done (merge q x ps)

  pub definition-done : (e : Expr) (C : Type 0) (z : Scope) (ds : List Decl) (names : NameSources) (clock : Clock) (at : Place → Place) (spot : Spot) (xs : List (List ℕ × Span)) (s : Sketch) → RightFits t e xs → NamesLead S T n place C z names
      → (let c = clock_of t z ds xs e s in
      Reached S T n place C at (ExprWires S t brings z (on_clock spot c.0) e c.1) → IsOwn S T n place C spot (λ q. DefinitionPlaced (standing place q) t brings (held q) z spot ds xs e (λ p. only (at p)) s) at (at_expr e clock names (λ p. only (at p))) → Ends (drawn_definition t brings z spot ds xs e s)
      → Defined C s (drawn_definition t brings z spot ds xs e s) z xs (of_expr e names (λ p. only (at p))) (at_expr e clock names (λ p. only (at p))) (ExprWires S t brings z (on_clock spot c.0) e c.1))
  definition-done e C z ds names clock at spot xs s fit named h own c =
      let i = clock_of t z ds xs e s in
      let r = clock_of-runs Runs (running S (Early S T n place)) t z ds xs e s in
      let u = right-done e C z names clock at (on_clock spot i.0) xs i.1 fit named h own c in
      record { shut = r.closed u.shut; slots = λ k. u.slots (r.slots k); given = u.given; placed = u.placed }

  -- ---- transitions

  -- the wire of a condition
  condition-valued : (e : Expr) (C : Type 0) (z : Scope) (names : NameSources) (at : Place → Place) (spot : Spot) (s : Sketch) → Reached S T n place C at (ExprWires S t brings z spot e s) → (Leads (of_expr e names (λ p. only (at p))) → C ⊎ S (drawn t brings z spot e s).0.wire)
      → T (at []) → C ⊎ S (drawn t brings z spot e s).0.wire
  condition-valued (call q i inlined es) C z names at spot s h v = v
  condition-valued (constant q i) C z names at spot s h v = h []
  condition-valued (variable q i) C z names at spot s h v = h []
  condition-valued (last_of q i) C z names at spot s h v = h []
  condition-valued (one q o a) C z names at spot s h v = h []
  condition-valued (two q o a d) C z names at spot s h v = h []
  condition-valued (choose q a d e) C z names at spot s h v = h []
  condition-valued (pre q a) C z names at spot s h v = h []
  condition-valued (fby q a d) C z names at spot s h v = h []
  condition-valued (arrow q a d) C z names at spot s h v = h []
  condition-valued (when_is q a i x) C z names at spot s h v = h []
  condition-valued (merge q x ps) C z names at spot s h v = h []

  -- the state of a jump has all its conditions
  pub record Jumped (C : Type 0) (s s' : Sketch) (conditions : Sources) (state : ℕ) (reads : PlaceSources) (wires : Said) : Type 0 where
    pub shut : Ends s
    pub slots : SlotsRight S T n place s → SlotsRight S T n place s'
    pub valued : Leads conditions → C ⊎ S state
    pub placed : Holds (leading T) C reads wires

  conditions-done : (qs : List Trans) (C : Type 0) (z : Scope) (names : NameSources) (at : Place → Place) (spot : Spot) (words : Words) (rest : Jump) (s : Sketch) → ConditionsFit t qs → NamesLead S T n place C z names → Reached S T n place C at (ConditionsWires S t brings z spot words qs rest s)
      → IsOwn S T n place C spot (λ q. ConditionsPlaced (standing place q) t brings (held q) z spot words qs (λ p. only (at p)) rest s) at (at_conditions qs names (λ p. only (at p))) → Ends (drawn_transitions t brings z spot words qs rest s).1
      → Jumped C s (drawn_transitions t brings z spot words qs rest s).1 (of_conditions qs (λ p. only (at p))) rest.state (at_conditions qs names (λ p. only (at p))) (ConditionsWires S t brings z spot words qs rest s)
  conditions-done [] C z names at spot words rest s fit named h own c = record { shut = c; slots = λ k. k; valued = λ l. absurd l; placed = nothing-read S T n place C }
  conditions-done (q ∷ qs) C z names at spot words rest s fit named h own c =
      let v = drawn t brings z spot q.cond s in
      let more = transition words.numbers words.lines.shape rest v.0.wire q v.1 in
      let kq : PlaceSources = λ p. only (at (Head ∷ p)) in
      let ks : PlaceSources = λ p. only (at (Tail ∷ p)) in
      let u2 = conditions-done qs C z names (λ p. at (Tail ∷ p)) spot words more.0 more.1 fit.1 named (λ p. h (Tail ∷ p)) (λ o. let x = own o in (λ i. (x.0 i).1, λ p. x.1 (Tail ∷ p), x.2)) c in
      let r = transition-runs Runs (running S (Early S T n place)) words.numbers words.lines.shape rest v.0.wire q v.1 in
      let u1 = expr-done S T n place t brings held b q.cond C z names [] (λ p. at (Head ∷ p)) spot s fit.0 named (λ p. h (Head ∷ p)) (λ o. let x = own o in (λ i. (x.0 i).0, λ p. x.1 (Head ∷ p), x.2)) (r.closed u2.shut) in
      let g = transition-gives S words.numbers words.lines.shape rest v.0.wire q v.1 u2.shut in
      record {
        shut = u1.shut;
        slots = λ k. u2.slots (r.slots (u1.slots k));
        valued = either S T n place C (S rest.state) (only (at (Head ∷ []))) (of_conditions qs ks) (λ l. on S T n place C v.0.wire rest.state g.0 (condition-valued q.cond C z names (λ p. at (Head ∷ p)) spot s (λ p. h (Head ∷ p)) u1.valued l)) (λ l. on S T n place C more.0.state rest.state g.1 (u2.valued l));
        placed = row-holds (leading T) C (at_expr q.cond [] names kq) (at_conditions qs names ks) (ExprWires S t brings z spot q.cond s) (ConditionsWires S t brings z spot words qs more.0 more.1) u1.placed u2.placed;
      }

  pub jump-done : (qs : List Trans) (C : Type 0) (z : Scope) (names : NameSources) (at : Place → Place) (spot : Spot) (words : Words) (none : Jump) (s : Sketch) → ConditionsFit t qs → NamesLead S T n place C z names → Reached S T n place C at (JumpWires S t brings z spot words qs s)
      → IsOwn S T n place C spot (λ q. JumpPlaced (standing place q) t brings (held q) z spot words qs (λ p. only (at p)) s) at (at_conditions qs names (λ p. only (at p))) → Ends (drawn_jump t brings z spot words qs none s).1
      → Jumped C s (drawn_jump t brings z spot words qs none s).1 (of_conditions qs (λ p. only (at p))) (drawn_jump t brings z spot words qs none s).0.state (at_conditions qs names (λ p. only (at p))) (JumpWires S t brings z spot words qs s)
  jump-done qs C z names at spot words none s fit named h own c =
      let j = jump_hole words.lines.shape s in
      let rest = drawn_transitions t brings z spot words qs j.0 j.1 in
      let r1 = jump_end-runs Runs (running S (Early S T n place)) rest.0 none rest.1 in
      let r0 = jump_hole-runs Runs (running S (Early S T n place)) words.lines.shape s in
      let u = conditions-done qs C z names at spot words j.0 j.1 fit named h own (r1.closed c) in
      record { shut = r0.closed u.shut; slots = λ k. r1.slots (u.slots (r0.slots k)); valued = u.valued; placed = u.placed }
