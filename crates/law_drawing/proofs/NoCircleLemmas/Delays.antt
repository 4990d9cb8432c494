-- Delays and sampled values, with marks.
use Rattle.std.proofs.Common.{◌≡◌, subst, Bool, ℕ, suc, max, false, List, refl, arith}
use Rattle.hp_tree.specs.Instant.{Place as TreePlace}
use Rattle.hp_meaning.specs.Causal.Sources.{Sources, none, both, NameSources}
use Rattle.hp_circuit.specs.declared.circuit.Shape.{Shape}
use Rattle.hp_circuit.specs.declared.circuit.Shape.TheVariants.{Truth, Cons, Mark as Whole}
use Rattle.hp_drawing.specs.declared.parts.Place.{Place}
use Rattle.hp_drawing.specs.declared.parts.Register.{Register}
use Rattle.hp_drawing.specs.declared.parts.Value.{Value}
use Rattle.hp_drawing.specs.Kept.{is_mark}
use Rattle.hp_drawing.specs.Sketch.{Sketch, high, value, mark, mark_of, copy, outer_clock}
use Rattle.hp_drawing.specs.Places.{new_register, takes}
use Rattle.hp_drawing.specs.Scopes.{Scope, value_in}
use Rattle.hp_drawing.specs.DrawnExpressions.{drawn_choice, delay_begin, delay_take, pre_end, fby_end, outside_of, sampled}
use Rattle.law_drawing.specs.NoCircle.Marks.{Mark, Marks, ground, Grows, Low, Under, There, Frame, AreMarked, around}
use Rattle.law_drawing.proofs.NoCircleLemmas.Steps.{grows-none, grows-both, low-grows, there-grows, low-there, low-own, Step}
use Rattle.law_drawing.proofs.NoCircleLemmas.Steps as steps
use Rattle.law_drawing.proofs.NoCircleLemmas.Parts.{placed-clock, IsRegistered, registered-grows, new_register-marked, takes-marked}
use Rattle.law_drawing.proofs.NoCircleLemmas.Values.{Valued, holed-valued, onward, choice-marked, IsAt, at-behind, Draws, bound, under-in, under-name, low-context, under-context}

module _ (rank : TreePlace → ℕ) (z : Scope) (context : Mark) (names : NameSources) where
  abbrev At : Frame → Marks → Sketch → Place → Type 0
  At F ms s spot = IsAt rank z context names F ms s spot

  abbrev Drawing : Frame → Place → Sources → ℕ → Bool → (Sketch → Value × Sketch) → Type 0
  Drawing F spot m n whole f = Draws rank z context names F spot m n whole f

  abbrev Bounded : ℕ → Sources → Mark
  Bounded n m = bound rank z context names n m

  -- ---- registers of delays: an integer has none

  abbrev IsHeld : Marks → Shape → Register → Type 0
  IsHeld ms p r = is_mark p ≡ false → IsRegistered ms r context

  held-grows : (ms ms' : Marks) → Grows ms ms' → (p : Shape) (r : Register) → IsHeld ms p r → IsHeld ms' p r
  held-grows ms ms' g p r h e = registered-grows ms ms' g r context (h e)

  begin-marked : {F : Frame} (p : Shape) (spot : Place) (s : Sketch) (ms : Marks) → At F ms s spot → (ms' : Marks) × Grows ms ms' × AreMarked F (delay_begin p spot s).1 ms' × IsHeld ms' p (delay_begin p spot s).0
  begin-marked Whole spot s ms h = (ms, grows-none ms, h.marks, λ e. absurd (cc))
  begin-marked Truth spot s ms h = let r = new_register-marked spot 0 Truth s ms context h.marks h.placed in (r.0, r.1, r.2, λ e. r.3)
  begin-marked (Cons n) spot s ms h = let r = new_register-marked spot 0 (Cons n) s ms context h.marks h.placed in (r.0, r.1, r.2, λ e. r.3)

  take-marked : {F : Frame} (p : Shape) (r : Register) (spot : Place) (w : ℕ) (s : Sketch) (ms : Marks) → At F ms s spot → IsHeld ms p r → There ms w → Step F ms (delay_take p r spot w s)
  take-marked Whole r spot w s ms h k t = (ms, grows-none ms, h.marks)
  take-marked Truth r spot w s ms h k t = takes-marked r spot w s ms context h.marks h.placed (k refl) t
  take-marked (Cons n) r spot w s ms h k t = takes-marked r spot w s ms context h.marks h.placed (k refl) t

  pre-end-marked : {F : Frame} (p : Shape) (r : Register) (spot : Place) (d : Value × Sketch) (ms : Marks) (n : ℕ) (m : Sources) → At F ms d.1 spot → IsHeld ms p r → There ms d.0.wire → Valued F ms (Bounded n m) (is_mark p) (pre_end p r spot d)
  pre-end-marked Whole r spot d ms n m h k t = holed-valued ms (Bounded n m) Whole (mark d.1) (steps.mark-marked d.1 ms (Bounded n m) h.marks)
  pre-end-marked Truth r spot d ms n m h k t =
      let s = takes-marked r spot d.0.wire d.1 ms context h.marks h.placed (k refl) t in
      (s.0, s.1, s.2, low-context rank z context names s.0 r.read n m (low-grows ms s.0 s.1 r.read context (k refl).reads), refl)
  pre-end-marked (Cons c) r spot d ms n m h k t =
      let s = takes-marked r spot d.0.wire d.1 ms context h.marks h.placed (k refl) t in
      (s.0, s.1, s.2, low-context rank z context names s.0 r.read n m (low-grows ms s.0 s.1 r.read context (k refl).reads), refl)

  abbrev pub pre_of : Shape → Place → (Sketch → Value × Sketch) → Sketch → Value × Sketch
  pre_of p spot f s =
      let r = delay_begin p spot s in
      pre_end p r.0 spot (f r.1)

  pub draws-pre : {F : Frame} (p : Shape) (spot : Place) (a : Sources) (i : ℕ) (whole : Bool) (f : Sketch → Value × Sketch) → Drawing F spot a i whole f → Drawing F spot none 0 (is_mark p) (pre_of p spot f)
  draws-pre p spot a i whole f d s ms h =
      let r = begin-marked p spot s ms h in
      let b = delay_begin p spot s in
      let v = d b.1 r.0 (at-behind rank z context names ms r.0 s b.1 spot h r.1 r.2) in
      let g = grows-both ms r.0 v.0 r.1 v.1 in
      onward ms v.0 (Bounded 0 none) (is_mark p) (pre_end p b.0 spot (f b.1)) g
      (pre-end-marked p b.0 spot (f b.1) v.0 0 none (at-behind rank z context names ms v.0 s (f b.1).1 spot h g v.2) (held-grows r.0 v.0 v.1 p b.0 r.3) (low-there v.0 (f b.1).0.wire (Bounded i a) v.3))

  fby-end-marked : {F : Frame} (p : Shape) (r past : Register) (first : Value) (s : Sketch) (ms : Marks) (n : ℕ) (m : Sources) → AreMarked F s ms → IsHeld ms p r → IsRegistered ms past context → Low ms first.wire (Bounded n m)
      → Valued F ms (Bounded (suc n) m) (is_mark p) (fby_end p r past first s)
  fby-end-marked {F} p r past first s ms n m h k q l = by p k
    where
      under : Under ms first.wire (Bounded (suc n) m)
      under = under-in rank z context names ms first.wire n (suc n) m m (omega arith) (omega arith) l

      by : (p : Shape) → IsHeld ms p r → Valued F ms (Bounded (suc n) m) (is_mark p) (fby_end p r past first s)
      by Whole k = holed-valued ms (Bounded (suc n) m) Whole (mark_of first.wire s) (steps.mark-of-marked first.wire s ms (Bounded (suc n) m) h under)
      by Truth k =
          choice-marked past.read (value r.read Truth) first s ms (Bounded (suc n) m) h (under-context rank z context names ms past.read (suc n) m (omega arith) q.reads) (under-context rank z context names ms r.read (suc n) m (omega arith) (k refl).reads) under
      by (Cons c) k =
          choice-marked past.read (value r.read (Cons c)) first s ms (Bounded (suc n) m) h (under-context rank z context names ms past.read (suc n) m (omega arith) q.reads) (under-context rank z context names ms r.read (suc n) m (omega arith) (k refl).reads) under

  abbrev pub fby_of : Shape → Place → (Sketch → Value × Sketch) → (Sketch → Value × Sketch) → Sketch → Value × Sketch
  fby_of p spot f g s =
      let r = delay_begin p spot s in
      let past = new_register spot 0 Truth r.1 in
      let first = f past.1 in
      let second = g first.1 in
      fby_end p r.0 past.0 first.0 (takes past.0 spot high (delay_take p r.0 spot second.0.wire second.1))

  pub draws-fby : {F : Frame} (p : Shape) (spot : Place) (a b : Sources) (i j : ℕ) (one other : Bool) (f g : Sketch → Value × Sketch) → Drawing F spot a i one f → Drawing F spot b j other g → Drawing F spot a (suc i) (is_mark p) (fby_of p spot f g)
  draws-fby p spot a b i j one other f g d e s ms h =
      let r = begin-marked p spot s ms h in
      let held = delay_begin p spot s in
      let past = new_register spot 0 Truth held.1 in
      let h1 = at-behind rank z context names ms r.0 s held.1 spot h r.1 r.2 in
      let q = new_register-marked spot 0 Truth held.1 r.0 context h1.marks h1.placed in
      let h2 = at-behind rank z context names r.0 q.0 held.1 past.1 spot h1 q.1 q.2 in
      let first = f past.1 in
      let u = d past.1 q.0 h2 in
      let h3 = at-behind rank z context names q.0 u.0 past.1 first.1 spot h2 u.1 u.2 in
      let second = g first.1 in
      let v = e first.1 u.0 h3 in
      let h4 = at-behind rank z context names u.0 v.0 first.1 second.1 spot h3 v.1 v.2 in
      let from_q = grows-both q.0 u.0 v.0 u.1 v.1 in
      let from_r = grows-both r.0 q.0 v.0 q.1 from_q in
      let k = held-grows r.0 v.0 from_r p held.0 r.3 in
      let taken = delay_take p held.0 spot second.0.wire second.1 in
      let w = take-marked p held.0 spot second.0.wire second.1 v.0 h4 k (low-there v.0 second.0.wire (Bounded j b) v.3) in
      let h5 = at-behind rank z context names v.0 w.0 second.1 taken spot h4 w.1 w.2 in
      let x = takes-marked past.0 spot high taken w.0 context h5.marks h5.placed (registered-grows q.0 w.0 (grows-both q.0 v.0 w.0 from_q w.1) past.0 context q.3) (low-there w.0 high ground h5.marks.high_is) in
      let to_x = grows-both v.0 w.0 x.0 w.1 x.1 in
      let all = grows-both ms r.0 x.0 r.1 (grows-both r.0 v.0 x.0 from_r to_x) in
      onward ms x.0 (Bounded (suc i) a) (is_mark p) (fby_end p held.0 past.0 first.0 (takes past.0 spot high taken)) all
      (fby-end-marked p held.0 past.0 first.0 (takes past.0 spot high taken) x.0 i a x.2 (held-grows v.0 x.0 to_x p held.0 k) (registered-grows q.0 x.0 (grows-both q.0 v.0 x.0 from_q to_x) past.0 context q.3)
      (low-grows u.0 x.0 (grows-both u.0 v.0 x.0 v.1 to_x) first.0.wire (Bounded i a) u.3))

  abbrev pub arrow_of : Place → (Sketch → Value × Sketch) → (Sketch → Value × Sketch) → Sketch → Value × Sketch
  arrow_of spot f g s =
      let past = new_register spot 0 Truth s in
      let first = f past.1 in
      let second = g first.1 in
      drawn_choice past.0.read second.0 first.0 (takes past.0 spot high second.1)

  pub draws-arrow : {F : Frame} (spot : Place) (a b : Sources) (i j : ℕ) (one other : Bool) (f g : Sketch → Value × Sketch) → Drawing F spot a i one f → Drawing F spot b j other g → Drawing F spot (both a b) (suc (max i j)) other (arrow_of spot f g)
  draws-arrow {F} spot a b i j one other f g d e s ms h =
      let m = both a b in
      let n = suc (max i j) in
      let past = new_register spot 0 Truth s in
      let q = new_register-marked spot 0 Truth s ms context h.marks h.placed in
      let h2 = at-behind rank z context names ms q.0 s past.1 spot h q.1 q.2 in
      let first = f past.1 in
      let u = d past.1 q.0 h2 in
      let h3 = at-behind rank z context names q.0 u.0 past.1 first.1 spot h2 u.1 u.2 in
      let second = g first.1 in
      let v = e first.1 u.0 h3 in
      let h4 = at-behind rank z context names u.0 v.0 first.1 second.1 spot h3 v.1 v.2 in
      let from_q = grows-both q.0 u.0 v.0 u.1 v.1 in
      let x = takes-marked past.0 spot high second.1 v.0 context h4.marks h4.placed (registered-grows q.0 v.0 from_q past.0 context q.3) (low-there v.0 high ground h4.marks.high_is) in
      let all = grows-both ms q.0 x.0 q.1 (grows-both q.0 v.0 x.0 from_q x.1) in
      subst (λ whole. Valued F ms (Bounded n m) whole (drawn_choice past.0.read second.0 first.0 (takes past.0 spot high second.1))) v.4
      (onward ms x.0 (Bounded n m) (is_mark second.0.shape) (drawn_choice past.0.read second.0 first.0 (takes past.0 spot high second.1)) all
      (choice-marked past.0.read second.0 first.0 (takes past.0 spot high second.1) x.0 (Bounded n m) x.2
      (under-context rank z context names x.0 past.0.read n m (omega arith) (low-grows q.0 x.0 (grows-both q.0 v.0 x.0 from_q x.1) past.0.read context q.3.reads))
      (under-in rank z context names x.0 second.0.wire j n b m (omega arith) (omega arith) (low-grows v.0 x.0 x.1 second.0.wire (Bounded j b) v.3))
      (under-in rank z context names x.0 first.0.wire i n a m (omega arith) (omega arith) (low-grows u.0 x.0 (grows-both u.0 v.0 x.0 v.1 x.1) first.0.wire (Bounded i a) u.3))))

  -- ---- sampled values

  pub draws-sampled : {F : Frame} (spot : Place) (x : List ℕ) (a : Sources) (i : ℕ) (whole : Bool) (f : Place → Sketch → Value × Sketch) → ((other : Place) → Drawing F other a i whole (f other)) → Drawing F spot (both (names x) a) (suc i) whole (λ s. sampled (value_in z x).wire (f (outside_of spot s) s))
  draws-sampled {F} spot x a i whole f d s ms h =
      let m = Bounded (suc i) (both (names x) a) in
      let outside = outside_of spot s in
      let v = d outside s ms (record { marks = h.marks; placed = placed-clock ms spot (outer_clock spot.clock s) context h.placed; seen = h.seen }) in
      let r = f outside s in
      let c = steps.copy-marked F r.0 r.1 v.0 m v.2 (under-in rank z context names v.0 r.0.wire i (suc i) a (both (names x) a) (omega arith) (omega arith) v.3) in
      let g = grows-both ms v.0 c.0 v.1 c.1 in (
        c.0,
        g,
        steps.read-marked (copy r.0 r.1).0 (value_in z x).wire (copy r.0 r.1).1 c.0 m c.2 c.3
            (under-name rank z context names c.0 (value_in z x).wire (suc i) (names x) (both (names x) a) (omega arith) (omega arith) (low-grows ms c.0 g (value_in z x).wire (around rank context (names x)) (h.seen.values x))),
        low-own c.0 (copy r.0 r.1).0 m c.3,
        v.4,
      )
