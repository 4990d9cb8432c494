-- What is drawn of a definition, with marks.
use Rattle.std.proofs.Common.{ℕ, ◌+◌, ◌<◌, ◌≤◌, List, [], ◌∷◌, length, inl, inr, arith}
use Rattle.hp_base.specs.declared.span.Span.{Span}
use Rattle.hp_tree.specs.Blocks.{Decl}
use Rattle.hp_tree.specs.Expressions.{Expr, constant, variable, last_of, one, two, choose, pre, fby, arrow, when_is, merge, call}
use Rattle.hp_tree.specs.Instant.{Args, Instance, Clock}
use Rattle.hp_tree.specs.Programs.{Node}
use Rattle.hp_meaning.specs.Causal.Sources.{Sources, both, NameSources, PlaceSources, below}
use Rattle.hp_meaning.specs.Causal.WhatIsRead.{of_expr, at_expr}
use Rattle.hp_drawing.specs.declared.parts.Callee.{Callee}
use Rattle.hp_drawing.specs.declared.parts.Place.{Place}
use Rattle.hp_drawing.specs.declared.parts.Value.{Value}
use Rattle.hp_drawing.specs.Told.{Told}
use Rattle.hp_drawing.specs.Sketch.{Sketch, base}
use Rattle.hp_drawing.specs.Places.{on_clock}
use Rattle.hp_drawing.specs.Scopes.{Scope, value_in}
use Rattle.hp_drawing.specs.DrawnExpressions.{Brings, drawn, drawn_args, begin_call, output, step_clock}
use Rattle.hp_drawing.specs.DrawnBlocks.{Telling, untold, at_base, of_name, on_value, Path, path_of, clock_on, told_by, clock_by, clock_of, define_name, define_each, define_all, defined_value, drawn_right, drawn_definition}
use Rattle.law_drawing.specs.Steered.Marks.{Steering, Marks, Grows, Low, AreMarked}
use Rattle.law_drawing.specs.Steered.Placed.{Held, Placed, DefinitionPlaced}
use Rattle.law_drawing.specs.Steered.Asked.{count_of, CallsFit, Owes, IsCallee, BringsMarked, OwnEach, RightFits}
use Rattle.law_drawing.proofs.SteeredLemmas.Steps.{grows-none, grows-both, has-grows, low-grows, low-own, Step}
use Rattle.law_drawing.proofs.SteeredLemmas.Steps as steps
use Rattle.law_drawing.proofs.SteeredLemmas.Parts.{placed-clock}
use Rattle.law_drawing.proofs.SteeredLemmas.Values.{IsAt, at-behind}
use Rattle.law_drawing.proofs.SteeredLemmas.Calls.{step-clock-marked, callee-grows, call-marked}
use Rattle.law_drawing.proofs.SteeredLemmas.Expressions.{expr, args, from_none}

module _ (steers : Steering) (t : Told) (brings : Brings) (held : Held) (z : Scope) (context : Sources) (names : NameSources) (b : BringsMarked steers t brings held context) where
  abbrev At : Marks → Sketch → Place → Type 0
  At ms s spot = IsAt steers z context names ms s spot

  behind : (ms ms' : Marks) (s s' : Sketch) (spot : Place) → At ms s spot → Grows ms ms' → AreMarked steers s' ms' → At ms' s' spot
  behind ms ms' s s' spot h g a = at-behind steers z context names ms ms' s s' spot h g a

  -- ---- clocks

  path-marked : (clock : ℕ) (path : Path) (spot : Place) (s : Sketch) (ms : Marks) → At ms s spot → Step steers ms (clock_on t z clock path s).1
  path-marked clock [] spot s ms at = (ms, grows-none ms, at.marks)
  path-marked clock (p ∷ path) spot s ms at =
      let u = step-clock-marked steers z context names t clock p.0 p.1 s ms (both context (names p.1)) at.marks (at.seen.values p.1) in
      let c = step_clock t z clock p.0 p.1 s in
      let v = path-marked c.0 path spot c.1 u.0 (behind ms u.0 s c.1 spot at u.1 u.2) in
      (v.0, grows-both ms u.0 v.0 u.1 v.1, v.2)

  telling-marked : (ds : List Decl) (told : Telling) (spot : Place) (s : Sketch) (ms : Marks) → At ms s spot → Step steers ms (clock_by t z ds told s).1
  telling-marked ds untold spot s ms at = (ms, grows-none ms, at.marks)
  telling-marked ds at_base spot s ms at = (ms, grows-none ms, at.marks)
  telling-marked ds (of_name x) spot s ms at = path-marked base (path_of z ds x) spot s ms at
  telling-marked ds (on_value c x) spot s ms at =
      let u = path-marked base (path_of z ds x) spot s ms at in
      let outer = clock_on t z base (path_of z ds x) s in
      let v = step-clock-marked steers z context names t outer.0 c x outer.1 u.0 (both context (names x)) u.2 (low-grows steers ms u.0 u.1 (value_in z x).wire (both context (names x)) (at.seen.values x)) in
      (v.0, grows-both ms u.0 v.0 u.1 v.1, v.2)

  clock-marked : (ds : List Decl) (xs : List (List ℕ × Span)) (e : Expr) (spot : Place) (s : Sketch) (ms : Marks) → At ms s spot → Step steers ms (clock_of t z ds xs e s).1
  unfolding clock_of
  clock-marked ds xs e spot s ms at = telling-marked ds (told_by xs e) spot s ms at

  -- ---- names that are defined

  own-grows : (ms ms' : Marks) → Grows ms ms' → (xs : List (List ℕ × Span)) (m : Sources) → OwnEach steers ms z xs m → OwnEach steers ms' z xs m
  own-grows ms ms' g [] m h = tt
  own-grows ms ms' g (x ∷ xs) m h = (record { mark = h.0.mark; has = has-grows ms ms' g (value_in z x.0).wire h.0.mark h.0.has; from = h.0.from }, own-grows ms ms' g xs m h.1)

  all-defined : (xs : List (List ℕ × Span)) (v : Value) (s : Sketch) (ms : Marks) (m : Sources) → AreMarked steers s ms → OwnEach steers ms z xs m → Low steers ms v.wire m → AreMarked steers (define_all z xs v s) ms
  all-defined [] v s ms m a h l = a
  all-defined (x ∷ xs) v s ms m a h l =
      all-defined xs v (define_name z x.0 v s) ms m (steps.define-marked steers (value_in z x.0).wire v s ms h.0.mark a h.0.has (steps.low-up steers ms v.wire m h.0.mark h.0.from l)) h.1 l

  output-at : (c : Callee) (n : Node) (j : ℕ) (s : Sketch) (ms : Marks) (m : Sources) → IsCallee ms n c m → j < length n.outputs → Low steers ms (output c j s).wire m
  unfolding output
  output-at c n j s ms m h within = low-own steers ms (c.outputs + j) m (h.outputs j within)

  -- each has the output of a call at its place, from number j on
  each-defined : (c : Callee) (n : Node) (j : ℕ) (xs : List (List ℕ × Span)) (s : Sketch) (ms : Marks) (m : Sources) → AreMarked steers s ms → IsCallee ms n c m → j + length xs ≤ length n.outputs → OwnEach steers ms z xs m
      → AreMarked steers (define_each z c j xs s) ms
  each-defined c n j [] s ms m a callee fits h = a
  each-defined c n j (x ∷ xs) s ms m a callee fits h =
      let v = output c j s in
      let low = output-at c n j s ms m callee (omega (arith, fits)) in
      each-defined c n (j + 1) xs (define_name z x.0 v s) ms m (steps.define-marked steers (value_in z x.0).wire v s ms h.0.mark a h.0.has (steps.low-up steers ms v.wire m h.0.mark h.0.from low)) callee (omega (arith, fits)) h.1

  -- ---- right sides

  -- an expression that is no call
  single-marked : (e : Expr) (clock : Clock) (k : PlaceSources) (spot : Place) (xs : List (List ℕ × Span)) (s : Sketch) (ms : Marks) → CallsFit t e → Owes steers context (at_expr e clock names k) k → Placed steers t brings held z spot e k s → At ms s spot → OwnEach steers ms z xs (both context (of_expr e names k))
      → Step steers ms (defined_value z xs (drawn t brings z spot e s))
  single-marked e clock k spot xs s ms fit o j at own =
      let u = expr steers t brings held z context names b e clock k spot fit o s ms j at in
      let d = drawn t brings z spot e s in
      (u.0, u.1, all-defined xs d.0 d.1 u.0 (both context (of_expr e names k)) u.2 (own-grows ms u.0 u.1 xs (both context (of_expr e names k)) own) u.3)

  right-marked : (e : Expr) (clock : Clock) (k : PlaceSources) (spot : Place) (xs : List (List ℕ × Span)) (s : Sketch) (ms : Marks) → RightFits t e xs → Owes steers context (at_expr e clock names k) k → Placed steers t brings held z spot e k s → At ms s spot
      → OwnEach steers ms z xs (both context (of_expr e names k)) → Step steers ms (drawn_right t brings z spot xs e s)
  right-marked (call q f inlined es) clock k spot xs s ms fit o j at own =
      let m = both context (k []) in
      let n = fit.0.node in
      let c = begin_call t brings spot f s in
      let u = call-marked steers z context names t brings held b spot f n k s ms m j.0 at fit.0.found (λ h. inl h) (λ p l. o (Instance ∷ p) (elim l [ inl i ↦ inl i | inr i ↦ inr (inr i) ])) in
      let v = args steers t brings held z context names b es clock (below Args k) spot c.0 n 0 (k []) fit.2 (λ p. o (Args ∷ p)) (λ h. o [] (inr (inr h))) (from_none steers t brings held z context names b (count_of es) (length n.inputs) fit.0.inputs) c.1 u.0 j.1 (behind ms u.0 s c.1 spot at u.1 u.2) u.3 in
      let d = drawn_args t brings z spot c.0 0 es c.1 in
      let g = grows-both ms u.0 v.0 u.1 v.1 in
      (v.0, g, each-defined c.0 n 0 xs d v.0 m v.2 (callee-grows steers z context names u.0 v.0 v.1 n c.0 m u.3) (from_none steers t brings held z context names b (length xs) (length n.outputs) fit.1) (own-grows ms v.0 g xs m own))
  right-marked (constant q c) clock k spot xs s ms fit o j at own = single-marked (constant q c) clock k spot xs s ms fit o j at own
  right-marked (variable q x) clock k spot xs s ms fit o j at own = single-marked (variable q x) clock k spot xs s ms fit o j at own
  right-marked (last_of q x) clock k spot xs s ms fit o j at own = single-marked (last_of q x) clock k spot xs s ms fit o j at own
  right-marked (one q op a) clock k spot xs s ms fit o j at own = single-marked (one q op a) clock k spot xs s ms fit o j at own
  right-marked (two q op a c) clock k spot xs s ms fit o j at own = single-marked (two q op a c) clock k spot xs s ms fit o j at own
  right-marked (choose q a c d) clock k spot xs s ms fit o j at own = single-marked (choose q a c d) clock k spot xs s ms fit o j at own
  right-marked (pre q a) clock k spot xs s ms fit o j at own = single-marked (pre q a) clock k spot xs s ms fit o j at own
  right-marked (fby q a c) clock k spot xs s ms fit o j at own = single-marked (fby q a c) clock k spot xs s ms fit o j at own
  right-marked (arrow q a c) clock k spot xs s ms fit o j at own = single-marked (arrow q a c) clock k spot xs s ms fit o j at own
  right-marked (when_is q a c x) clock k spot xs s ms fit o j at own = single-marked (when_is q a c x) clock k spot xs s ms fit o j at own
  right-marked (merge q x ps) clock k spot xs s ms fit o j at own = single-marked (merge q x ps) clock k spot xs s ms fit o j at own

  pub definition-marked : (ds : List Decl) (xs : List (List ℕ × Span)) (e : Expr) (clock : Clock) (k : PlaceSources) (spot : Place) (s : Sketch) (ms : Marks) → RightFits t e xs → Owes steers context (at_expr e clock names k) k → DefinitionPlaced steers t brings held z spot ds xs e k s → At ms s spot
      → OwnEach steers ms z xs (both context (of_expr e names k)) → Step steers ms (drawn_definition t brings z spot ds xs e s)
  definition-marked ds xs e clock k spot s ms fit o j at own =
      let u = clock-marked ds xs e spot s ms at in
      let c = clock_of t z ds xs e s in
      let there = behind ms u.0 s c.1 spot at u.1 u.2 in
      let v = right-marked e clock k (on_clock spot c.0) xs c.1 u.0 fit o j (record { marks = there.marks; placed = placed-clock steers u.0 spot c.0 context there.placed; seen = there.seen }) (own-grows ms u.0 u.1 xs (both context (of_expr e names k)) own) in
      (v.0, grows-both ms u.0 v.0 u.1 v.1, v.2)
