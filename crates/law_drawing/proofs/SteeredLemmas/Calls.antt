-- Merges and calls, with marks.
use Rattle.std.proofs.Common.{◌≡◌, ℕ, ◌+◌, ◌<◌, List, ◌∷◌, length, Some, sym, subst}
use Rattle.hp_tree.specs.Instant.{Instance, Place as TreePlace}
use Rattle.hp_tree.specs.Programs.{Node}
use Rattle.hp_meaning.specs.Causal.Sources.{Sources, both, NameSources, PlaceSources, below}
use Rattle.hp_circuit.specs.declared.circuit.Shape.{Shape}
use Rattle.hp_circuit.specs.declared.circuit.Shape.TheVariants.{Truth, Cons, Mark}
use Rattle.hp_tree.specs.declared.decl.Cons as tree_cons
use Rattle.hp_drawing.specs.declared.parts.Callee.{Callee}
use Rattle.hp_drawing.specs.declared.parts.Place.{Place}
use Rattle.hp_drawing.specs.declared.parts.Value.{Value}
use Rattle.hp_drawing.specs.Told.{Told}
use Rattle.hp_drawing.specs.Sketch.{Sketch, mark, hole, define, next_wire}
use Rattle.hp_drawing.specs.Places.{on_clock, may_be_early, chain_add}
use Rattle.hp_drawing.specs.Scopes.{Scope, value_in}
use Rattle.hp_drawing.specs.DrawnExpressions.{Brings, cons_number, has_cons, step_clock, merge_begin, merge_end, output, takes_input, callee_of, begin_with, begin_call, add_outputs, add_holes}
use Rattle.law_drawing.specs.Steered.Marks.{Steering, Marks, Grows, Has, Leads, Low, AreMarked}
use Rattle.law_drawing.specs.Steered.Placed.{Held, CallPlaced}
use Rattle.law_drawing.specs.Steered.Asked.{IsCallee, BringsMarked}
use Rattle.law_drawing.proofs.SteeredLemmas.Steps.{grows-none, grows-both, has-grows, low-grows, there-grows, low-up, low-there, low-own, Step, Made, Holed, holed-made}
use Rattle.law_drawing.proofs.SteeredLemmas.Steps as steps
use Rattle.law_drawing.proofs.SteeredLemmas.Parts.{placed-grows, placed-clock, inner_clock-marked, chain_add-marked, chain_end-marked}
use Rattle.law_drawing.proofs.SteeredLemmas.Rows.{row-grows, holes-marked, outputs-marked}
use Rattle.law_drawing.proofs.SteeredLemmas.Values.{Valued, IsAt, at-behind, Draws, low-in}

module _ (steers : Steering) (z : Scope) (context : Sources) (names : NameSources) where
  abbrev At : Marks → Sketch → Place → Type 0
  At ms s spot = IsAt steers z context names ms s spot

  abbrev Drawing : Place → Sources → (Sketch → Type 0) → (Sketch → Value × Sketch) → Type 0
  Drawing spot m P f = Draws steers z context names spot m P f

  behind : (ms ms' : Marks) (s s' : Sketch) (spot : Place) → At ms s spot → Grows ms ms' → AreMarked steers s' ms' → At ms' s' spot
  behind ms ms' s s' spot h g a = at-behind steers z context names ms ms' s s' spot h g a

  -- ---- merges

  has-cons-marked : (t : Told) (w : ℕ) (c : tree_cons.Cons) (s : Sketch) (ms : Marks) (m : Sources) → AreMarked steers s ms → Low steers ms w m → Made steers ms m (has_cons t w c s)
  unfolding has_cons
  has-cons-marked t w c s ms m a l = steps.is-marked steers w (cons_number t c) s ms m a l

  pub step-clock-marked : (t : Told) (clock : ℕ) (c : tree_cons.Cons) (x : List ℕ) (s : Sketch) (ms : Marks) (m : Sources) → AreMarked steers s ms → Low steers ms (value_in z x).wire m → Step steers ms (step_clock t z clock c x s).1
  unfolding step_clock
  step-clock-marked t clock c x s ms m a l =
      let is = has_cons t (value_in z x).wire c s in
      let d = has-cons-marked t (value_in z x).wire c s ms m a l in
      let e = inner_clock-marked steers clock is.0 is.1 d.0 d.2 (low-there steers d.0 is.0 m d.3) in
      (e.0, grows-both ms d.0 e.0 d.1 e.1, e.2)

  abbrev pub part_of : Told → Place → List ℕ → tree_cons.Cons → (Place → Sketch → Value × Sketch) → ℕ → Sketch → ℕ × Sketch
  part_of t spot x c f h s =
      let is = has_cons t (value_in z x).wire c s in
      let inner = step_clock t z spot.clock c x is.1 in
      let v = f (on_clock spot inner.0) inner.1 in
      chain_add h is.0 v.0 v.1

  abbrev pub part_placed : Told → Place → List ℕ → tree_cons.Cons → (Place → Sketch → Type 0) → Sketch → Type 0
  part_placed t spot x c P s =
      let is = has_cons t (value_in z x).wire c s in
      let inner = step_clock t z spot.clock c x is.1 in
      P (on_clock spot inner.0) inner.1

  pub part-marked : (t : Told) (spot : Place) (x : List ℕ) (c : tree_cons.Cons) (a m : Sources) (P : Place → Sketch → Type 0) (f : Place → Sketch → Value × Sketch) (h : ℕ) (s : Sketch) (ms : Marks) → ((other : Place) → Drawing other a (P other) (f other)) → part_placed t spot x c P s → At ms s spot → Has ms h (both context m)
      → (Leads steers (names x) → Leads steers m) → (Leads steers a → Leads steers m) → Holed steers ms (both context m) (part_of t spot x c f h s)
  part-marked t spot x c a m P f h s ms d q at has from_name from_part =
      let is = has_cons t (value_in z x).wire c s in
      let u = has-cons-marked t (value_in z x).wire c s ms (both context (names x)) at.marks (at.seen.values x) in
      let at1 = behind ms u.0 s is.1 spot at u.1 u.2 in
      let inner = step_clock t z spot.clock c x is.1 in
      let v = step-clock-marked t spot.clock c x is.1 u.0 (both context (names x)) at1.marks (at1.seen.values x) in
      let at2 = behind u.0 v.0 is.1 inner.1 spot at1 v.1 v.2 in
      let w = d (on_clock spot inner.0) inner.1 v.0 q (record { marks = at2.marks; placed = placed-clock steers v.0 spot inner.0 context at2.placed; seen = at2.seen }) in
      let value = f (on_clock spot inner.0) inner.1 in
      let to_w = grows-both u.0 v.0 w.0 v.1 w.1 in
      let g = grows-both ms u.0 w.0 u.1 to_w in
      let e = chain_add-marked steers h is.0 value.0 value.1 w.0 (both context m) w.2 (has-grows ms w.0 g h (both context m) has) (low-in steers z context names w.0 is.0 (names x) m from_name (low-grows steers u.0 w.0 to_w is.0 (both context (names x)) u.3))
      (low-in steers z context names w.0 value.0.wire a m from_part w.3) in
      (e.0, grows-both ms w.0 e.0 g e.1, e.2, e.3)

  pub merge-end-marked : (p : Shape) (w : ℕ) (d : ℕ × Sketch) (ms : Marks) (m : Sources) → AreMarked steers d.1 ms → Has ms d.0 m → Has ms w m → Valued steers ms m (merge_end p w d)
  merge-end-marked Mark w d ms m a h k = (ms, grows-none ms, a, low-own steers ms w m k)
  merge-end-marked Truth w d ms m a h k = (ms, grows-none ms, chain_end-marked steers d.0 d.1 ms m a h, low-own steers ms w m k)
  merge-end-marked (Cons n) w d ms m a h k = (ms, grows-none ms, chain_end-marked steers d.0 d.1 ms m a h, low-own steers ms w m k)

  -- the wire of a merge, which reads its name
  pub merge-begin-marked : (p : Shape) (spot : Place) (x : List ℕ) (m : Sources) (s : Sketch) (ms : Marks) → At ms s spot → (Leads steers (names x) → Leads steers m) → Holed steers ms (both context m) (merge_begin p (value_in z x).wire s)
  merge-begin-marked p spot x m s ms at f =
      let d = steps.hole-marked steers p s ms (both context m) at.marks in
      let l = low-in steers z context names d.0 (value_in z x).wire (names x) m f (low-grows steers ms d.0 d.1 (value_in z x).wire (both context (names x)) (at.seen.values x)) in
      (d.0, d.1, steps.read-marked steers (hole p s).0 (value_in z x).wire (hole p s).1 d.0 (both context m) d.2 d.3 l, d.3)

  -- ---- calls

  pub callee-grows : (ms ms' : Marks) → Grows ms ms' → (n : Node) (c : Callee) (m : Sources) → IsCallee ms n c m → IsCallee ms' n c m
  callee-grows ms ms' g n c m h = record { outputs = row-grows ms ms' g c.outputs (length n.outputs) m h.outputs; inputs = row-grows ms ms' g c.inputs (length n.inputs) m h.inputs; reads = has-grows ms ms' g c.reads m h.reads }

  abbrev Called : Marks → Sources → Node → Callee × Sketch → Type 0
  Called ms m n d = (ms' : Marks) × Grows ms ms' × AreMarked steers d.1 ms' × IsCallee ms' n d.0 m

  node-marked : (t : Told) (brings : Brings) (held : Held) → BringsMarked steers t brings held context → (spot : Place) (f : List ℕ) (n : Node) (k : PlaceSources) (s : Sketch) (ms : Marks) (m : Sources) → t.nodes f ≡ Some n → CallPlaced steers t brings held spot (Some n) k s → At ms s spot
      → (Leads steers context → Leads steers m) → ((p : TreePlace) → Leads steers m → Leads steers (k (Instance ∷ p))) → Called ms m n (begin_with t brings spot (Some n) s)
  node-marked t brings held b spot name n k s ms m found q at f inside =
      let reads = mark s in
      let u = steps.mark-marked steers s ms m at.marks in
      let given = add_outputs t (may_be_early spot) n.outputs reads.0 reads.1 in
      let v = outputs-marked steers t (may_be_early spot) n.outputs reads.0 (below Instance k) reads.1 u.0 m q.0 inside u.2 (low-own steers u.0 reads.0 m u.3) in
      let w = holes-marked steers t n.inputs given v.0 m v.2 in
      let to_v = grows-both ms u.0 v.0 u.1 v.1 in
      let to_w = grows-both ms v.0 w.0 to_v w.1 in
      let c = callee_of (next_wire reads.1) (next_wire given) reads.0 in
      let callee : IsCallee w.0 n c m = record {
        outputs = row-grows v.0 w.0 w.1 (next_wire reads.1) (length n.outputs) m v.3;
        inputs = w.3;
        reads = has-grows u.0 w.0 (grows-both u.0 v.0 w.0 v.1 w.1) reads.0 m u.3;
      } in
      let e = b spot name n c (add_holes t n.inputs given) w.0 m (below Instance k) found q.1 inside w.2 (placed-grows steers ms w.0 to_w spot context at.placed) f callee in
      (e.0, grows-both ms w.0 e.0 to_w e.1, e.2, callee-grows w.0 e.0 e.1 n c m callee)

  pub call-marked : (t : Told) (brings : Brings) (held : Held) → BringsMarked steers t brings held context → (spot : Place) (f : List ℕ) (n : Node) (k : PlaceSources) (s : Sketch) (ms : Marks) (m : Sources) → CallPlaced steers t brings held spot (t.nodes f) k s → At ms s spot
      → t.nodes f ≡ Some n → (Leads steers context → Leads steers m) → ((p : TreePlace) → Leads steers m → Leads steers (k (Instance ∷ p))) → Called ms m n (begin_call t brings spot f s)
  unfolding begin_call
  call-marked t brings held b spot f n k s ms m q at found from inside =
      subst (λ o. Called ms m n (begin_with t brings spot o s)) (sym found) (node-marked t brings held b spot f n k s ms m found (subst (λ o. CallPlaced steers t brings held spot o k s) found q) at from inside)

  pub input-marked : (c : Callee) (n : Node) (k : ℕ) (v : Value) (s : Sketch) (ms : Marks) (m : Sources) → AreMarked steers s ms → IsCallee ms n c m → k < length n.inputs → Low steers ms v.wire m → AreMarked steers (takes_input c k v s) ms
  unfolding takes_input
  input-marked c n k v s ms m a h within l =
      steps.read-marked steers c.reads v.wire (define (c.inputs + k) v s) ms m (steps.define-marked steers (c.inputs + k) v s ms m a (h.inputs k within) l) h.reads l

  pub output-low : (c : Callee) (n : Node) (s : Sketch) (ms : Marks) (m : Sources) → IsCallee ms n c m → 0 < length n.outputs → Low steers ms (output c 0 s).wire m
  unfolding output
  output-low c n s ms m h within = low-own steers ms (c.outputs + 0) m (h.outputs 0 within)
