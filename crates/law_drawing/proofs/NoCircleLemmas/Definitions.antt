-- What is drawn of a definition, with marks.
use Rattle.std.proofs.Common.{◌≡◌, ◌⊎◌, suc, false, Option, Some, refl, sym, ap, subst, ◌∙◌, inl, inr, ℕ, ◌+◌, ◌≤◌, List, [], ◌∷◌, length, arith}
use Rattle.hp_base.specs.declared.span.Span.{Span}
use Rattle.hp_tree.specs.Blocks.{Decl}
use Rattle.hp_tree.specs.Expressions.{Expr, constant, variable, last_of, one, two, choose, pre, fby, arrow, when_is, merge, call}
use Rattle.hp_tree.specs.Instant.{Args, Clock, Place as TreePlace}
use Rattle.hp_tree.specs.Programs.{Node}
use Rattle.hp_meaning.specs.Causal.Sources.{NameSources, PlaceSources, below}
use Rattle.hp_meaning.specs.Causal.WhatIsRead.{of_expr, at_expr}
use Rattle.hp_drawing.specs.declared.parts.Callee.{Callee}
use Rattle.hp_drawing.specs.declared.parts.Place.{Place}
use Rattle.hp_drawing.specs.declared.parts.Value.{Value}
use Rattle.hp_drawing.specs.Told.{Told}
use Rattle.hp_drawing.specs.Sketch.{Sketch, base}
use Rattle.hp_drawing.specs.Places.{on_clock}
use Rattle.hp_drawing.specs.Scopes.{Scope, value_in}
use Rattle.hp_drawing.specs.DrawnExpressions.{Brings, drawn, drawn_args, begin_call, output, step_clock}
use Rattle.hp_drawing.specs.DrawnBlocks.{Telling, untold, at_base, of_name, on_value, Path, path_of, clock_on, told_by, clock_by, clock_of, define_name, define_each, define_all, defined_value, drawn_right, drawn_definition}
use Rattle.std.specs.Str.{bytes_eq}
use Rattle.hp_base.specs.declared.ty.Ty.{Ty}
use Rattle.hp_tree.specs.Meaning.{is_among}
use Rattle.hp_tree.specs.Programs.{TypeDecl}
use Rattle.hp_base.specs.Known.Known.{lookup}
use Rattle.hp_typing.specs.Types.{type_of, types_in}
use Rattle.law_judged.specs.Typed.Scopes.{Scope as TypeScope}
use Rattle.law_values.specs.Valued.Judged.{Lasts, LeftsAre, LeftsHave, ExprSound, RightSound}
use Rattle.law_values.proofs.ValuedLemmas.Typed.{row_typed}
use Rattle.hp_meaning.specs.Contract.Slots.{is_int}
use Rattle.hp_drawing.specs.Kept.{is_mark}
use Rattle.law_drawing.proofs.CarryingLemmas.Layers.{same-name, or-cases}
use Rattle.law_drawing.specs.NoCircle.Typed.{AreTyped}
use Rattle.law_drawing.specs.NoCircle.Marks.{Mark, Marks, up, Grows, Low, Frame, later, AreMarked, around}
use Rattle.law_drawing.specs.NoCircle.Asked.{Owes, IsCallee, BringsMarked, OwnEach, AreFirst, Owed}
use Rattle.law_drawing.specs.NoCircle.Heights.{height}
use Rattle.law_drawing.proofs.NoCircleLemmas.Steps.{grows-none, grows-both, has-grows, low-grows, low-under, Step}
use Rattle.law_drawing.proofs.NoCircleLemmas.Steps as steps
use Rattle.law_drawing.proofs.NoCircleLemmas.Parts.{placed-clock}
use Rattle.law_drawing.proofs.NoCircleLemmas.Values.{IsAt, at-behind, bound}
use Rattle.law_drawing.proofs.NoCircleLemmas.Calls.{step-clock-marked, callee-grows, call-marked, output-low, shapes-back, output-shape}
use Rattle.law_drawing.proofs.NoCircleLemmas.Rows.{RowLate, AreShaped}
use Rattle.law_drawing.proofs.NoCircleLemmas.Carried.{type-whole}
use Rattle.law_drawing.proofs.NoCircleLemmas.Expressions.{expr, args, args-below, context-below}

module _ (rank : TreePlace → ℕ) (types : List TypeDecl) (among : List ℕ → Option Node) (t : Told) (known : (f : List ℕ) (n : Node) → among f ≡ Some n → t.nodes f ≡ Some n) (brings : Brings) (b : BringsMarked t brings) (g : TypeScope) (has_last : Lasts) (z : Scope) (S : AreTyped g has_last z) (context : Mark) (names : NameSources) where
  abbrev At : Frame → Marks → Sketch → Place → Type 0
  At F ms s spot = IsAt rank z context names F ms s spot

  behind : {F G : Frame} (ms ms' : Marks) (s s' : Sketch) (spot : Place) → At F ms s spot → Grows ms ms' → AreMarked G s' ms' → At G ms' s' spot
  behind ms ms' s s' spot h g a = at-behind rank z context names ms ms' s s' spot h g a

  -- the mark of what an expression reads, and its steps
  abbrev pub of_right : Expr → PlaceSources → Mark
  of_right e k = bound rank z context names (height e) (of_expr e names k)

  -- ---- clocks

  path-marked : {F : Frame} (clock : ℕ) (path : Path) (spot : Place) (s : Sketch) (ms : Marks) → At F ms s spot → Step F ms (clock_on t z clock path s).1
  path-marked clock [] spot s ms at = (ms, grows-none ms, at.marks)
  path-marked clock (p ∷ path) spot s ms at =
      let u = step-clock-marked rank z context names t clock p.0 p.1 s ms (around rank context (names p.1)) at.marks (at.seen.values p.1) in
      let c = step_clock t z clock p.0 p.1 s in
      let v = path-marked c.0 path spot c.1 u.0 (behind ms u.0 s c.1 spot at u.1 u.2) in
      (v.0, grows-both ms u.0 v.0 u.1 v.1, v.2)

  telling-marked : {F : Frame} (ds : List Decl) (told : Telling) (spot : Place) (s : Sketch) (ms : Marks) → At F ms s spot → Step F ms (clock_by t z ds told s).1
  telling-marked ds untold spot s ms at = (ms, grows-none ms, at.marks)
  telling-marked ds at_base spot s ms at = (ms, grows-none ms, at.marks)
  telling-marked ds (of_name x) spot s ms at = path-marked base (path_of z ds x) spot s ms at
  telling-marked ds (on_value c x) spot s ms at =
      let u = path-marked base (path_of z ds x) spot s ms at in
      let outer = clock_on t z base (path_of z ds x) s in
      let v = step-clock-marked rank z context names t outer.0 c x outer.1 u.0 (around rank context (names x)) u.2 (low-grows ms u.0 u.1 (value_in z x).wire (around rank context (names x)) (at.seen.values x)) in
      (v.0, grows-both ms u.0 v.0 u.1 v.1, v.2)

  clock-marked : {F : Frame} (ds : List Decl) (xs : List (List ℕ × Span)) (e : Expr) (spot : Place) (s : Sketch) (ms : Marks) → At F ms s spot → Step F ms (clock_of t z ds xs e s).1
  unfolding clock_of
  clock-marked ds xs e spot s ms at = telling-marked ds (told_by xs e) spot s ms at

  -- ---- names that are defined

  own-grows : (ms ms' : Marks) → Grows ms ms' → (xs : List (List ℕ × Span)) (m : Mark) → OwnEach ms z xs m → OwnEach ms' z xs m
  own-grows ms ms' g [] m h = tt
  own-grows ms ms' g (x ∷ xs) m h = (record { mark = h.0.mark; has = has-grows ms ms' g (value_in z x.0).wire h.0.mark h.0.has; above = h.0.above }, own-grows ms ms' g xs m h.1)

  -- a name less is owed
  one-said : (F : Frame) (x : List ℕ × Span) (xs : List (List ℕ × Span)) (v : Value) (u : Ty) → AreFirst z → lookup g.variables x.0 ≡ Some u → is_mark v.shape ≡ is_int u → (k : ℕ) → (later F (Owed z (is_among (x ∷ xs)))).late k
      → ((k ≡ (value_in z x.0).wire) × (is_mark v.shape ≡ false)) ⊎ (later F (Owed z (is_among xs))).late k
  one-said F x xs v u first known_as flag k (inl q) = inr (inl q)
  one-said F x xs v u first known_as flag k (inr (y, en, own, part, e, d)) =
      or-cases (bytes_eq x.0 y) (is_among xs y) d (λ q. here (same-name x.0 y q)) (λ q. inr (inr (y, en, own, part, e, q)))
    where
      here : x.0 ≡ y → ((k ≡ (value_in z x.0).wire) × (is_mark v.shape ≡ false)) ⊎ (later F (Owed z (is_among xs))).late k
      here q =
          let f = first y en own in
          inl (e ∙ sym f.0 ∙ sym (ap (λ n. (value_in z n).wire) q), flag ∙ sym (S.values x.0 u known_as) ∙ ap (λ n. is_mark (value_in z n).shape) q ∙ ap is_mark f.1 ∙ part)

  none-owed : (F : Frame) (s : Sketch) (ms : Marks) → AreMarked (later F (Owed z (is_among []))) s ms → AreMarked F s ms
  none-owed F s ms a = steps.weaken F.late s ms (λ k q. elim q [ inl o ↦ o | inr o ↦ absurd (let c = o.5 in cc) ]) a

  all-defined : (F : Frame) (xs : List (List ℕ × Span)) (v : Value) (u : Ty) (s : Sketch) (ms : Marks) (m : Mark) → AreFirst z → LeftsHave g xs u → is_mark v.shape ≡ is_int u → AreMarked (later F (Owed z (is_among xs))) s ms → OwnEach ms z xs m → Low ms v.wire m
      → AreMarked F (define_all z xs v s) ms
  all-defined F [] v u s ms m first lefts flag a h l = none-owed F s ms a
  all-defined F (x ∷ xs) v u s ms m first lefts flag a h l =
      all-defined F xs v u (define_name z x.0 v s) ms m first lefts.1 flag
      (steps.define-said (later F (Owed z (is_among xs))).late (value_in z x.0).wire v s ms h.0.mark (one-said F x xs v u first lefts.0 flag) a h.0.has (low-under ms v.wire m h.0.mark h.0.above l)) h.1 l

  -- each has the output of a call at its place, from number j on
  each-defined : (F : Frame) (c : Callee) (n : Node) (j : ℕ) (xs : List (List ℕ × Span)) (ds : List Decl) (s : Sketch) (ms : Marks) (m : Mark) → AreFirst z → LeftsAre g xs ds → AreShaped t F.shapes (c.outputs + j) ds → AreMarked (later F (Owed z (is_among xs))) s ms → IsCallee ms n c m
      → j + length ds ≤ length n.outputs → OwnEach ms z xs (up 1 m) → AreMarked F (define_each z c j xs s) ms
  each-defined F c n j [] ds s ms m first lefts shaped a callee fits h = none-owed F s ms a
  each-defined F c n j (x ∷ xs) [] s ms m first lefts shaped a callee fits h = absurd lefts
  each-defined F c n j (x ∷ xs) (d ∷ ds) s ms m first lefts shaped a callee fits h =
      let v = output c j s in
      let low = output-low c n j s ms m callee (omega (arith, fits)) in
      let flag = ap is_mark (output-shape t (later F (Owed z (is_among (x ∷ xs)))) c (c.outputs + j) j d s ms a refl shaped.0) ∙ type-whole t d.ty in
      each-defined F c n (j + 1) xs ds (define_name z x.0 v s) ms m first lefts.1 (subst (λ i. AreShaped t F.shapes i ds) (let y : suc (c.outputs + j) ≡ c.outputs + (j + 1) = omega arith in y) shaped.1)
      (steps.define-said (later F (Owed z (is_among xs))).late (value_in z x.0).wire v s ms h.0.mark (one-said F x xs v d.ty first lefts.0 flag) a h.0.has (low-under ms v.wire (up 1 m) h.0.mark h.0.above low)) callee (omega (arith, fits)) h.1

  -- ---- right sides

  -- an expression that is no call
  single-marked : (F : Frame) (e : Expr) (clock : Clock) (k : PlaceSources) (spot : Place) (xs : List (List ℕ × Span)) (s : Sketch) (ms : Marks) → AreFirst z → ExprSound types among g has_last e × ((u : Ty) × ((type_of g e ≡ Some u) × LeftsHave g xs u)) → Owes rank context (at_expr e clock names k) k
      → At (later F (Owed z (is_among xs))) ms s spot → OwnEach ms z xs (of_right e k) → Step F ms (defined_value z xs (drawn t brings z spot e s))
  single-marked F e clock k spot xs s ms first ok o at own =
      let u = expr rank types among t known brings b g has_last z S context names (later F (Owed z (is_among xs))) e ok.1.0 clock k spot ok.0 ok.1.1.0 o s ms at in
      let d = drawn t brings z spot e s in
      (u.0, u.1, all-defined F xs d.0 ok.1.0 d.1 u.0 (of_right e k) first ok.1.1.1 u.4 u.2 (own-grows ms u.0 u.1 xs (of_right e k) own) u.3)

  right-marked : (F : Frame) (e : Expr) (clock : Clock) (k : PlaceSources) (spot : Place) (xs : List (List ℕ × Span)) (s : Sketch) (ms : Marks) → AreFirst z → RightSound types among g has_last xs e → Owes rank context (at_expr e clock names k) k → At (later F (Owed z (is_among xs))) ms s spot
      → OwnEach ms z xs (of_right e k) → Step F ms (drawn_right t brings z spot xs e s)
  right-marked F (call q f inlined es) clock k spot xs s ms first ok o at own =
      let r = row_typed (lookup g.nodes f) (types_in g es) ok.1.0 ok.1.1.0 in
      let m = around rank context (k []) in
      let n = r.0 in
      let L = later F (Owed z (is_among xs)) in
      let c = begin_call t brings spot f s in
      let u = call-marked rank z context names L t brings b spot f n s ms m at (known f n (sym ok.0.0 ∙ r.1)) in
      let G : Frame = record { late = F.late; shapes = u.0 } in
      let H = later G (Owed z (is_among xs)) in
      let v = args rank types among t known brings b g has_last z S context names H es n.inputs clock (below Args k) spot c.0 n 0 (k []) ok.0.1 r.2 (λ p. o (Args ∷ p))
      (args-below rank types among t known brings b g has_last z S context names (k []) clock es (below Args k) (o []))
      (context-below rank types among t known brings b g has_last z S context names (k []) clock es (below Args k) (o [])) (omega arith) c.1 u.4
      (behind ms u.4 s c.1 spot at u.5 (subst (λ i. AreMarked (later H (RowLate t i n.inputs)) c.1 u.4) (let y : c.0.inputs ≡ c.0.inputs + 0 = omega arith in y) u.6)) u.7 in
      let d = drawn_args t brings z spot c.0 0 es c.1 in
      let grown = grows-both ms u.4 v.0 u.5 v.1 in
      let said = each-defined G c.0 n 0 xs n.outputs d v.0 m first (subst (LeftsAre g xs) (sym r.3) ok.1.1.1) (subst (λ i. AreShaped t u.0 i n.outputs) (let y : c.0.outputs ≡ c.0.outputs + 0 = omega arith in y) u.3) v.2 (callee-grows u.4 v.0 v.1 n c.0 m u.7) (omega arith) (own-grows ms v.0 grown xs (up 1 m) own) in
      (v.0, grown, shapes-back rank z context names F u.0 u.1 (define_each z c.0 0 xs d) v.0 u.2 said)
  right-marked F (constant q c) clock k spot xs s ms first ok o at own = single-marked F (constant q c) clock k spot xs s ms first ok o at own
  right-marked F (variable q x) clock k spot xs s ms first ok o at own = single-marked F (variable q x) clock k spot xs s ms first ok o at own
  right-marked F (last_of q x) clock k spot xs s ms first ok o at own = single-marked F (last_of q x) clock k spot xs s ms first ok o at own
  right-marked F (one q op a) clock k spot xs s ms first ok o at own = single-marked F (one q op a) clock k spot xs s ms first ok o at own
  right-marked F (two q op a c) clock k spot xs s ms first ok o at own = single-marked F (two q op a c) clock k spot xs s ms first ok o at own
  right-marked F (choose q a c d) clock k spot xs s ms first ok o at own = single-marked F (choose q a c d) clock k spot xs s ms first ok o at own
  right-marked F (pre q a) clock k spot xs s ms first ok o at own = single-marked F (pre q a) clock k spot xs s ms first ok o at own
  right-marked F (fby q a c) clock k spot xs s ms first ok o at own = single-marked F (fby q a c) clock k spot xs s ms first ok o at own
  right-marked F (arrow q a c) clock k spot xs s ms first ok o at own = single-marked F (arrow q a c) clock k spot xs s ms first ok o at own
  right-marked F (when_is q a c x) clock k spot xs s ms first ok o at own = single-marked F (when_is q a c x) clock k spot xs s ms first ok o at own
  right-marked F (merge q x ps) clock k spot xs s ms first ok o at own = single-marked F (merge q x ps) clock k spot xs s ms first ok o at own

  pub definition-marked : (F : Frame) (ds : List Decl) (xs : List (List ℕ × Span)) (e : Expr) (clock : Clock) (k : PlaceSources) (spot : Place) (s : Sketch) (ms : Marks) → AreFirst z → RightSound types among g has_last xs e → Owes rank context (at_expr e clock names k) k
      → At (later F (Owed z (is_among xs))) ms s spot → OwnEach ms z xs (of_right e k) → Step F ms (drawn_definition t brings z spot ds xs e s)
  definition-marked F ds xs e clock k spot s ms first ok o at own =
      let u = clock-marked ds xs e spot s ms at in
      let c = clock_of t z ds xs e s in
      let there = behind ms u.0 s c.1 spot at u.1 u.2 in
      let v = right-marked F e clock k (on_clock spot c.0) xs c.1 u.0 first ok o (record { marks = there.marks; placed = placed-clock u.0 spot c.0 context there.placed; seen = there.seen }) (own-grows ms u.0 u.1 xs (of_right e k) own) in
      (v.0, grows-both ms u.0 v.0 u.1 v.1, v.2)
