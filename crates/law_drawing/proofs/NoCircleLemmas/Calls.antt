-- Merges and calls, with marks.
use Rattle.std.proofs.Common.{◌≡◌, ◌⊎◌, Bool, true, false, [], ◌++◌, refl, ap, ◌∙◌, ℕ, ◌+◌, ◌≤◌, ◌<◌, List, length, Some, sym, subst, inl, inr, arith}
use Rattle.hp_tree.specs.Instant.{Place as TreePlace}
use Rattle.std.specs.List.{slice_get}
use Rattle.std.proofs.lemmas.List.{append-nil, append_assoc}
use Rattle.hp_tree.specs.Blocks.{Decl}
use Rattle.hp_tree.specs.Programs.{Node}
use Rattle.hp_meaning.specs.Causal.Sources.{Sources, NameSources}
use Rattle.hp_circuit.specs.declared.circuit.Shape.{Shape}
use Rattle.hp_circuit.specs.declared.circuit.Shape.TheVariants.{Truth, Cons, Mark as Whole}
use Rattle.hp_tree.specs.declared.decl.Cons as tree_cons
use Rattle.hp_drawing.specs.declared.parts.Callee.{Callee}
use Rattle.hp_drawing.specs.declared.parts.Place.{Place}
use Rattle.hp_drawing.specs.declared.parts.Value.{Value}
use Rattle.hp_drawing.specs.Told.{Told, type_shape}
use Rattle.hp_drawing.specs.Kept.{is_mark}
use Rattle.hp_drawing.specs.Sketch.{Sketch, mark, hole, define, next_wire, shape_at}
use Rattle.hp_drawing.specs.Places.{on_clock, may_be_early, chain_add}
use Rattle.hp_drawing.specs.Scopes.{Scope, value_in}
use Rattle.hp_drawing.specs.DrawnExpressions.{Brings, cons_number, has_cons, step_clock, merge_begin, merge_end, shape_or, output, takes_input, callee_of, begin_with, begin_call, add_outputs, add_holes}
use Rattle.law_drawing.specs.NoCircle.Marks.{Mark, Marks, up, Grows, Has, Low, Under, Frame, with_late, later, AreMarked, top, around}
use Rattle.law_drawing.specs.NoCircle.Asked.{IsCallee, BringsMarked}
use Rattle.law_drawing.proofs.NoCircleLemmas.Orders.{less-up}
use Rattle.law_drawing.proofs.NoCircleLemmas.Steps.{get-front, grows-none, grows-both, has-grows, low-grows, under-grows, there-grows, low-up, low-next, low-there, low-own, has-under, Step, Made, Holed}
use Rattle.law_drawing.proofs.NoCircleLemmas.Steps as steps
use Rattle.law_drawing.proofs.NoCircleLemmas.Parts.{placed-grows, placed-clock, inner_clock-marked, Rest, chain_add-marked, chain_end-marked}
use Rattle.law_drawing.proofs.NoCircleLemmas.Rows.{row-grows, named-row, RowLate, holes-marked, outputs-marked, AreShaped, outputs-shaped}
use Rattle.law_drawing.proofs.NoCircleLemmas.Values.{Valued, IsAt, at-behind, Draws, bound, under-in, under-name}

-- ---- conditions and clocks

pub has-cons-marked : {F : Frame} (t : Told) (w : ℕ) (c : tree_cons.Cons) (s : Sketch) (ms : Marks) (m : Mark) → AreMarked F s ms → Low ms w m → Holed F ms (up 1 m) (has_cons t w c s)
unfolding has_cons
has-cons-marked t w c s ms m a l = steps.is-marked w (cons_number t c) s ms (up 1 m) a (low-next ms w m l)

-- ---- calls

pub callee-grows : (ms ms' : Marks) → Grows ms ms' → (n : Node) (c : Callee) (m : Mark) → IsCallee ms n c m → IsCallee ms' n c m
callee-grows ms ms' g n c m h = record { outputs = row-grows ms ms' g c.outputs (length n.outputs) (up 1 m) h.outputs; inputs = row-grows ms ms' g c.inputs (length n.inputs) m h.inputs; reads = has-grows ms ms' g c.reads m h.reads }

pub input-marked : (F : Frame) (late : ℕ → Type 0) (c : Callee) (n : Node) (k : ℕ) (v : Value) (s : Sketch) (ms : Marks) (m : Mark) → ((i : ℕ) → F.late i → ((i ≡ c.inputs + k) × (is_mark v.shape ≡ false)) ⊎ late i) → AreMarked F s ms → IsCallee ms n c m → k < length n.inputs → Under ms v.wire m → AreMarked (with_late F late) (takes_input c k v s) ms
unfolding takes_input
input-marked F late c n k v s ms m f a h within l =
    steps.read-marked c.reads v.wire (define (c.inputs + k) v s) ms m (steps.define-said late (c.inputs + k) v s ms m f a (h.inputs k within) l) h.reads l

pub output-low : (c : Callee) (n : Node) (k : ℕ) (s : Sketch) (ms : Marks) (m : Mark) → IsCallee ms n c m → k < length n.outputs → Low ms (output c k s).wire (up 1 m)
unfolding output
output-low c n k s ms m h within = low-own ms (c.outputs + k) (up 1 m) (h.outputs k within)

module _ (rank : TreePlace → ℕ) (z : Scope) (context : Mark) (names : NameSources) where
  abbrev At : Frame → Marks → Sketch → Place → Type 0
  At F ms s spot = IsAt rank z context names F ms s spot

  abbrev Drawing : Frame → Place → Sources → ℕ → Bool → (Sketch → Value × Sketch) → Type 0
  Drawing F spot m n whole f = Draws rank z context names F spot m n whole f

  abbrev Bounded : ℕ → Sources → Mark
  Bounded n m = bound rank z context names n m

  behind : {F G : Frame} (ms ms' : Marks) (s s' : Sketch) (spot : Place) → At F ms s spot → Grows ms ms' → AreMarked G s' ms' → At G ms' s' spot
  behind ms ms' s s' spot h g a = at-behind rank z context names ms ms' s s' spot h g a

  -- ---- merges

  pub step-clock-marked : {F : Frame} (t : Told) (clock : ℕ) (c : tree_cons.Cons) (x : List ℕ) (s : Sketch) (ms : Marks) (m : Mark) → AreMarked F s ms → Low ms (value_in z x).wire m → Step F ms (step_clock t z clock c x s).1
  unfolding step_clock
  step-clock-marked t clock c x s ms m a l =
      let is = has_cons t (value_in z x).wire c s in
      let d = has-cons-marked t (value_in z x).wire c s ms m a l in
      let e = inner_clock-marked clock is.0 is.1 d.0 d.2 (record { mark = up 1 m; has = d.3 }) in
      (e.0, grows-both ms d.0 e.0 d.1 e.1, e.2)

  abbrev pub part_of : Told → Place → List ℕ → tree_cons.Cons → (Place → Sketch → Value × Sketch) → ℕ → Sketch → ℕ × Sketch
  part_of t spot x c f h s =
      let is = has_cons t (value_in z x).wire c s in
      let inner = step_clock t z spot.clock c x is.1 in
      let v = f (on_clock spot inner.0) inner.1 in
      chain_add h is.0 v.0 v.1

  -- The hole of a merge is some steps above its parts; while they are drawn it may be open, if it is no integer.
  pub part-marked : (F : Frame) (t : Told) (spot : Place) (x : List ℕ) (c : tree_cons.Cons) (a m : Sources) (i n : ℕ) (part whole : Bool) (f : Place → Sketch → Value × Sketch) (h : ℕ) (s : Sketch) (ms : Marks) → (part ≡ false → whole ≡ false)
      → ((other : Place) → Drawing (later F (Rest whole h)) other a i part (f other)) → At (later F (Rest whole h)) ms s spot → Has ms h (Bounded n m)
      → top rank (names x) ≤ top rank m → top rank a ≤ top rank m → 1 < n → i < n → Holed (later F (Rest whole (part_of t spot x c f h s).0)) ms (Bounded n m) (part_of t spot x c f h s)
  part-marked F t spot x c a m i n part whole f h s ms alike d at has from_name from_part more_name more_part =
      let is = has_cons t (value_in z x).wire c s in
      let known = around rank context (names x) in
      let u = has-cons-marked t (value_in z x).wire c s ms known at.marks (at.seen.values x) in
      let at1 = behind ms u.0 s is.1 spot at u.1 u.2 in
      let inner = step_clock t z spot.clock c x is.1 in
      let v = step-clock-marked t spot.clock c x is.1 u.0 known at1.marks (at1.seen.values x) in
      let at2 = behind u.0 v.0 is.1 inner.1 spot at1 v.1 v.2 in
      let w = d (on_clock spot inner.0) inner.1 v.0 (record { marks = at2.marks; placed = placed-clock v.0 spot inner.0 context at2.placed; seen = at2.seen }) in
      let value = f (on_clock spot inner.0) inner.1 in
      let to_w = grows-both u.0 v.0 w.0 v.1 w.1 in
      let g = grows-both ms u.0 w.0 u.1 to_w in
      let e = chain_add-marked F whole h is.0 value.0 value.1 w.0 (Bounded n m) (λ q. alike (sym w.4 ∙ q)) w.2 (has-grows ms w.0 g h (Bounded n m) has)
      (has-under w.0 is.0 (Bounded 1 (names x)) (Bounded n m) (inr (omega (arith, from_name), omega (arith, more_name))) (has-grows u.0 w.0 to_w is.0 (Bounded 1 (names x)) u.3))
      (under-in rank z context names w.0 value.0.wire i n a m more_part from_part w.3) in
      (e.0, grows-both ms w.0 e.0 g e.1, e.2, e.3)

  nothing-left : (F : Frame) (h : ℕ) (s : Sketch) (ms : Marks) → AreMarked (later F (Rest true h)) s ms → AreMarked F s ms
  nothing-left F h s ms a = steps.weaken F.late s ms (λ k q. elim q [ inl o ↦ o | inr o ↦ absurd (let c : true ≡ false = o.0 in cc) ]) a

  pub merge-end-marked : (F : Frame) (p : Shape) (w : ℕ) (d : ℕ × Sketch) (ms : Marks) (m : Mark) → AreMarked (later F (Rest (is_mark p) d.0)) d.1 ms → Has ms d.0 m → Has ms w m → Valued F ms m (is_mark p) (merge_end p w d)
  merge-end-marked F Whole w d ms m a h k = (ms, grows-none ms, nothing-left F d.0 d.1 ms a, low-own ms w m k, refl)
  merge-end-marked F Truth w d ms m a h k = (ms, grows-none ms, chain_end-marked F false d.0 d.1 ms m a h, low-own ms w m k, refl)
  merge-end-marked F (Cons n) w d ms m a h k = (ms, grows-none ms, chain_end-marked F false d.0 d.1 ms m a h, low-own ms w m k, refl)

  -- the wire of a merge, which reads its name
  pub merge-begin-marked : (F : Frame) (p : Shape) (spot : Place) (x : List ℕ) (n : ℕ) (m : Sources) (s : Sketch) (ms : Marks) → At F ms s spot → 0 < n → top rank (names x) ≤ top rank m
      → Holed (later F (Rest (is_mark p) (merge_begin p (value_in z x).wire s).0)) ms (Bounded n m) (merge_begin p (value_in z x).wire s)
  merge-begin-marked F p spot x n m s ms at more f =
      let late : ℕ → Type 0 = λ k. F.late k ⊎ Rest (is_mark p) (hole p s).0 k in
      let d = steps.hole-marked p s ms (Bounded n m) (λ e. inr (e, refl)) (steps.weaken late s ms (λ k q. inl q) at.marks) in
      let l = under-name rank z context names d.0 (value_in z x).wire n (names x) m more f (low-grows ms d.0 d.1 (value_in z x).wire (around rank context (names x)) (at.seen.values x)) in
      (d.0, d.1, steps.read-marked (hole p s).0 (value_in z x).wire (hole p s).1 d.0 (Bounded n m) d.2 d.3 l, d.3)

  -- ---- calls

  -- While the arguments of a call are drawn its inputs may be open, and what its outputs carry is known.
  abbrev pub at_call : Told → Frame → ℕ → List Decl → List Shape → Frame
  at_call t F first ds shapes = record { late = λ k. F.late k ⊎ RowLate t first ds k; shapes = shapes }

  abbrev Called : Told → Frame → Marks → Mark → Node → Callee × Sketch → Type 0
  Called t F ms m n d =
      (shapes : List Shape) × (more : List Shape) × (shapes ≡ F.shapes ++ more) × AreShaped t shapes d.0.outputs n.outputs
      × (ms' : Marks) × Grows ms ms' × AreMarked (at_call t F d.0.inputs n.inputs shapes) d.1 ms' × IsCallee ms' n d.0 m

  -- from a frame with more shapes, and back
  reshaped : (F : Frame) (shapes more : List Shape) (s : Sketch) (ms : Marks) → s.shapes ≡ shapes ++ more → AreMarked F s ms → AreMarked (record { late = F.late; shapes = shapes }) s ms
  reshaped F shapes more s ms e a = record {
    wires = a.wires;
    first_shapes = (more, e);
    as_many = a.as_many;
    reads = a.reads;
    clocks = a.clocks;
    low_is = a.low_is;
    high_is = a.high_is;
    hyp_is = a.hyp_is;
    duty_is = a.duty_is;
  }

  pub shapes-back : (F : Frame) (shapes more : List Shape) (s : Sketch) (ms : Marks) → shapes ≡ F.shapes ++ more → AreMarked (record { late = F.late; shapes = shapes }) s ms → AreMarked F s ms
  shapes-back F shapes more s ms e a =
      reshaped (record { late = F.late; shapes = shapes }) F.shapes (more ++ a.first_shapes.0) s ms (a.first_shapes.1 ∙ ap (λ l. l ++ a.first_shapes.0) e ∙ append_assoc F.shapes more a.first_shapes.0) a

  as-many-wires : (F : Frame) (s : Sketch) (ms : Marks) → AreMarked F s ms → length s.shapes ≡ next_wire s
  unfolding next_wire
  as-many-wires F s ms a = a.as_many

  node-marked : (F : Frame) (t : Told) (brings : Brings) → BringsMarked t brings → (spot : Place) (f : List ℕ) (n : Node) (s : Sketch) (ms : Marks) (m : Mark) → t.nodes f ≡ Some n → At F ms s spot → Called t F ms m n (begin_with t brings spot (Some n) s)
  node-marked F t brings b spot name n s ms m found at =
      let reads = mark s in
      let u = steps.mark-marked s ms m at.marks in
      let given = add_outputs t (may_be_early spot) n.outputs reads.0 reads.1 in
      let v = outputs-marked t (may_be_early spot) n.outputs reads.0 reads.1 u.0 (up 1 m) u.2 (has-under u.0 reads.0 m (up 1 m) (less-up 0 m) u.3) in
      let H = at_call t F (next_wire given) n.inputs given.shapes in
      let start : AreMarked H given v.0 = steps.weaken H.late given v.0 (λ k q. inl q) (reshaped F given.shapes [] given v.0 (sym (append-nil given.shapes)) v.2) in
      let w = holes-marked t n.inputs given v.0 (λ x. m) (λ k q. inr q) start in
      let to_v = grows-both ms u.0 v.0 u.1 v.1 in
      let to_w = grows-both ms v.0 w.0 to_v w.1 in
      let c = callee_of (next_wire reads.1) (next_wire given) reads.0 in
      let callee : IsCallee w.0 n c m = record {
        outputs = row-grows v.0 w.0 w.1 (next_wire reads.1) (length n.outputs) (up 1 m) v.3;
        inputs = named-row w.0 (next_wire given) n.inputs m w.3;
        reads = has-grows u.0 w.0 (grows-both u.0 v.0 w.0 v.1 w.1) reads.0 m u.3;
      } in
      let e = b H spot name n c (add_holes t n.inputs given) w.0 m context found w.2 (placed-grows ms w.0 to_w spot context at.placed) callee in (
        given.shapes,
        v.2.first_shapes.0,
        v.2.first_shapes.1,
        outputs-shaped t (may_be_early spot) n.outputs reads.0 reads.1 (as-many-wires F reads.1 u.0 u.2),
        e.0,
        grows-both ms w.0 e.0 to_w e.1,
        e.2,
        callee-grows w.0 e.0 e.1 n c m callee,
      )

  pub call-marked : (F : Frame) (t : Told) (brings : Brings) → BringsMarked t brings → (spot : Place) (f : List ℕ) (n : Node) (s : Sketch) (ms : Marks) (m : Mark) → At F ms s spot → t.nodes f ≡ Some n → Called t F ms m n (begin_call t brings spot f s)
  unfolding begin_call
  call-marked F t brings b spot f n s ms m at found =
      subst (λ o. Called t F ms m n (begin_with t brings spot o s)) (sym found) (node-marked F t brings b spot f n s ms m found at)

-- what an output carries, wherever it is read later
pub output-shape : (t : Told) (F : Frame) (c : Callee) (first k : ℕ) (d : Decl) (s : Sketch) (ms : Marks) → AreMarked F s ms → c.outputs + k ≡ first → slice_get F.shapes first ≡ Some (type_shape t d.ty) → (output c k s).shape ≡ type_shape t d.ty
unfolding output shape_at
output-shape t F c first k d s ms a e h =
    ap shape_or (subst (λ i. slice_get s.shapes i ≡ Some (type_shape t d.ty)) (sym e) (subst (λ l. slice_get l first ≡ Some (type_shape t d.ty)) (sym a.first_shapes.1) (get-front F.shapes a.first_shapes.0 first (type_shape t d.ty) h)))
