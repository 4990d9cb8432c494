-- Delays, sampled values and merges, with marks.
use Rattle.std.proofs.Common.{◌≡◌, ℕ, false, List, refl, inl, inr}
use Rattle.hp_meaning.specs.Causal.Sources.{Sources, none, both, NameSources}
use Rattle.hp_circuit.specs.declared.circuit.Shape.{Shape}
use Rattle.hp_circuit.specs.declared.circuit.Shape.TheVariants.{Truth, Cons, Mark}
use Rattle.hp_drawing.specs.declared.parts.Place.{Place}
use Rattle.hp_drawing.specs.declared.parts.Register.{Register}
use Rattle.hp_drawing.specs.declared.parts.Value.{Value}
use Rattle.hp_drawing.specs.Kept.{is_mark}
use Rattle.hp_drawing.specs.Sketch.{Sketch, high, value, mark, mark_of, copy, outer_clock}
use Rattle.hp_drawing.specs.Places.{new_register, takes}
use Rattle.hp_drawing.specs.Scopes.{Scope, value_in}
use Rattle.hp_drawing.specs.DrawnExpressions.{drawn_choice, delay_begin, delay_take, pre_end, fby_end, outside_of, sampled}
use Rattle.law_drawing.specs.Steered.Marks.{Steering, Marks, Grows, Low, There, AreMarked}
use Rattle.law_drawing.proofs.SteeredLemmas.Steps.{grows-none, grows-both, has-grows, low-grows, there-grows, low-up, low-there, low-own, Step, Made, Holed, holed-made}
use Rattle.law_drawing.proofs.SteeredLemmas.Steps as steps
use Rattle.law_drawing.proofs.SteeredLemmas.Parts.{placed-clock, IsRegistered, registered-grows, new_register-marked, takes-marked}
use Rattle.law_drawing.proofs.SteeredLemmas.Values.{Valued, holed-valued, onward, choice-marked, IsAt, at-behind, Draws, low-in, low-context}

module _ (steers : Steering) (z : Scope) (context : Sources) (names : NameSources) where
  abbrev At : Marks → Sketch → Place → Type 0
  At ms s spot = IsAt steers z context names ms s spot

  abbrev Drawing : Place → Sources → (Sketch → Type 0) → (Sketch → Value × Sketch) → Type 0
  Drawing spot m P f = Draws steers z context names spot m P f

  -- ---- registers of delays: an integer has none

  abbrev IsHeld : Marks → Shape → Register → Type 0
  IsHeld ms p r = is_mark p ≡ false → IsRegistered steers ms r context

  held-grows : (ms ms' : Marks) → Grows ms ms' → (p : Shape) (r : Register) → IsHeld ms p r → IsHeld ms' p r
  held-grows ms ms' g p r h e = registered-grows steers ms ms' g r context (h e)

  begin-marked : (p : Shape) (spot : Place) (s : Sketch) (ms : Marks) → At ms s spot → (ms' : Marks) × Grows ms ms' × AreMarked steers (delay_begin p spot s).1 ms' × IsHeld ms' p (delay_begin p spot s).0
  begin-marked Mark spot s ms h = (ms, grows-none ms, h.marks, λ e. absurd (cc))
  begin-marked Truth spot s ms h = let r = new_register-marked steers spot 0 Truth s ms context h.marks h.placed in (r.0, r.1, r.2, λ e. r.3)
  begin-marked (Cons n) spot s ms h = let r = new_register-marked steers spot 0 (Cons n) s ms context h.marks h.placed in (r.0, r.1, r.2, λ e. r.3)

  take-marked : (p : Shape) (r : Register) (spot : Place) (w : ℕ) (s : Sketch) (ms : Marks) → At ms s spot → IsHeld ms p r → There steers ms w → Step steers ms (delay_take p r spot w s)
  take-marked Mark r spot w s ms h k t = (ms, grows-none ms, h.marks)
  take-marked Truth r spot w s ms h k t = takes-marked steers r spot w s ms context h.marks h.placed (k refl) t
  take-marked (Cons n) r spot w s ms h k t = takes-marked steers r spot w s ms context h.marks h.placed (k refl) t

  pre-end-marked : (p : Shape) (r : Register) (spot : Place) (d : Value × Sketch) (ms : Marks) (m : Sources) → At ms d.1 spot → IsHeld ms p r → There steers ms d.0.wire → Valued steers ms (both context m) (pre_end p r spot d)
  pre-end-marked Mark r spot d ms m h k t = holed-valued steers ms (both context m) Mark (mark d.1) (steps.mark-marked steers d.1 ms (both context m) h.marks)
  pre-end-marked Truth r spot d ms m h k t =
      let s = takes-marked steers r spot d.0.wire d.1 ms context h.marks h.placed (k refl) t in
      (s.0, s.1, s.2, low-context steers z context names s.0 r.read m (low-grows steers ms s.0 s.1 r.read context (k refl).reads))
  pre-end-marked (Cons n) r spot d ms m h k t =
      let s = takes-marked steers r spot d.0.wire d.1 ms context h.marks h.placed (k refl) t in
      (s.0, s.1, s.2, low-context steers z context names s.0 r.read m (low-grows steers ms s.0 s.1 r.read context (k refl).reads))

  abbrev pub pre_of : Shape → Place → (Sketch → Value × Sketch) → Sketch → Value × Sketch
  pre_of p spot f s =
      let r = delay_begin p spot s in
      pre_end p r.0 spot (f r.1)

  pub draws-pre : (p : Shape) (spot : Place) (a : Sources) (P : Sketch → Type 0) (f : Sketch → Value × Sketch) → Drawing spot a P f → Drawing spot none (λ s. P (delay_begin p spot s).1) (pre_of p spot f)
  draws-pre p spot a P f d s ms j h =
      let r = begin-marked p spot s ms h in
      let b = delay_begin p spot s in
      let v = d b.1 r.0 j (at-behind steers z context names ms r.0 s b.1 spot h r.1 r.2) in
      let g = grows-both ms r.0 v.0 r.1 v.1 in
      onward steers ms v.0 (both context none) (pre_end p b.0 spot (f b.1)) g
      (pre-end-marked p b.0 spot (f b.1) v.0 none (at-behind steers z context names ms v.0 s (f b.1).1 spot h g v.2) (held-grows r.0 v.0 v.1 p b.0 r.3) (low-there steers v.0 (f b.1).0.wire (both context a) v.3))

  fby-end-marked : (p : Shape) (r past : Register) (first : Value) (s : Sketch) (ms : Marks) (m : Sources) → AreMarked steers s ms → IsHeld ms p r → IsRegistered steers ms past context → Low steers ms first.wire (both context m)
      → Valued steers ms (both context m) (fby_end p r past first s)
  fby-end-marked Mark r past first s ms m h k q l = holed-valued steers ms (both context m) Mark (mark_of first.wire s) (steps.mark-of-marked steers first.wire s ms (both context m) h l)
  fby-end-marked Truth r past first s ms m h k q l =
      choice-marked steers past.read (value r.read Truth) first s ms (both context m) h (low-context steers z context names ms past.read m q.reads) (low-context steers z context names ms r.read m (k refl).reads) l
  fby-end-marked (Cons n) r past first s ms m h k q l =
      choice-marked steers past.read (value r.read (Cons n)) first s ms (both context m) h (low-context steers z context names ms past.read m q.reads) (low-context steers z context names ms r.read m (k refl).reads) l

  abbrev pub fby_of : Shape → Place → (Sketch → Value × Sketch) → (Sketch → Value × Sketch) → Sketch → Value × Sketch
  fby_of p spot f g s =
      let r = delay_begin p spot s in
      let past = new_register spot 0 Truth r.1 in
      let first = f past.1 in
      let second = g first.1 in
      fby_end p r.0 past.0 first.0 (takes past.0 spot high (delay_take p r.0 spot second.0.wire second.1))

  abbrev pub fby_placed : Shape → Place → (Sketch → Type 0) → (Sketch → Type 0) → (Sketch → Value × Sketch) → Sketch → Type 0
  fby_placed p spot P Q f s = let past = new_register spot 0 Truth (delay_begin p spot s).1 in P past.1 × Q (f past.1).1

  pub draws-fby : (p : Shape) (spot : Place) (a b : Sources) (P Q : Sketch → Type 0) (f g : Sketch → Value × Sketch) → Drawing spot a P f → Drawing spot b Q g → Drawing spot a (fby_placed p spot P Q f) (fby_of p spot f g)
  draws-fby p spot a b P Q f g d e s ms j h =
      let r = begin-marked p spot s ms h in
      let held = delay_begin p spot s in
      let past = new_register spot 0 Truth held.1 in
      let h1 = at-behind steers z context names ms r.0 s held.1 spot h r.1 r.2 in
      let q = new_register-marked steers spot 0 Truth held.1 r.0 context h1.marks h1.placed in
      let h2 = at-behind steers z context names r.0 q.0 held.1 past.1 spot h1 q.1 q.2 in
      let first = f past.1 in
      let u = d past.1 q.0 j.0 h2 in
      let h3 = at-behind steers z context names q.0 u.0 past.1 first.1 spot h2 u.1 u.2 in
      let second = g first.1 in
      let v = e first.1 u.0 j.1 h3 in
      let h4 = at-behind steers z context names u.0 v.0 first.1 second.1 spot h3 v.1 v.2 in
      let from_q = grows-both q.0 u.0 v.0 u.1 v.1 in
      let from_r = grows-both r.0 q.0 v.0 q.1 from_q in
      let k = held-grows r.0 v.0 from_r p held.0 r.3 in
      let taken = delay_take p held.0 spot second.0.wire second.1 in
      let w = take-marked p held.0 spot second.0.wire second.1 v.0 h4 k (low-there steers v.0 second.0.wire (both context b) v.3) in
      let h5 = at-behind steers z context names v.0 w.0 second.1 taken spot h4 w.1 w.2 in
      let x = takes-marked steers past.0 spot high taken w.0 context h5.marks h5.placed (registered-grows steers q.0 w.0 (grows-both q.0 v.0 w.0 from_q w.1) past.0 context q.3) (low-there steers w.0 high none h5.marks.high_is) in
      let to_x = grows-both v.0 w.0 x.0 w.1 x.1 in
      let all = grows-both ms r.0 x.0 r.1 (grows-both r.0 v.0 x.0 from_r to_x) in
      onward steers ms x.0 (both context a) (fby_end p held.0 past.0 first.0 (takes past.0 spot high taken)) all
      (fby-end-marked p held.0 past.0 first.0 (takes past.0 spot high taken) x.0 a x.2 (held-grows v.0 x.0 to_x p held.0 k) (registered-grows steers q.0 x.0 (grows-both q.0 v.0 x.0 from_q to_x) past.0 context q.3)
      (low-grows steers u.0 x.0 (grows-both u.0 v.0 x.0 v.1 to_x) first.0.wire (both context a) u.3))

  abbrev pub arrow_of : Place → (Sketch → Value × Sketch) → (Sketch → Value × Sketch) → Sketch → Value × Sketch
  arrow_of spot f g s =
      let past = new_register spot 0 Truth s in
      let first = f past.1 in
      let second = g first.1 in
      drawn_choice past.0.read second.0 first.0 (takes past.0 spot high second.1)

  abbrev pub arrow_placed : Place → (Sketch → Type 0) → (Sketch → Type 0) → (Sketch → Value × Sketch) → Sketch → Type 0
  arrow_placed spot P Q f s = let past = new_register spot 0 Truth s in P past.1 × Q (f past.1).1

  pub draws-arrow : (spot : Place) (a b : Sources) (P Q : Sketch → Type 0) (f g : Sketch → Value × Sketch) → Drawing spot a P f → Drawing spot b Q g → Drawing spot (both a b) (arrow_placed spot P Q f) (arrow_of spot f g)
  draws-arrow spot a b P Q f g d e s ms j h =
      let m = both a b in
      let past = new_register spot 0 Truth s in
      let q = new_register-marked steers spot 0 Truth s ms context h.marks h.placed in
      let h2 = at-behind steers z context names ms q.0 s past.1 spot h q.1 q.2 in
      let first = f past.1 in
      let u = d past.1 q.0 j.0 h2 in
      let h3 = at-behind steers z context names q.0 u.0 past.1 first.1 spot h2 u.1 u.2 in
      let second = g first.1 in
      let v = e first.1 u.0 j.1 h3 in
      let h4 = at-behind steers z context names u.0 v.0 first.1 second.1 spot h3 v.1 v.2 in
      let from_q = grows-both q.0 u.0 v.0 u.1 v.1 in
      let x = takes-marked steers past.0 spot high second.1 v.0 context h4.marks h4.placed (registered-grows steers q.0 v.0 from_q past.0 context q.3) (low-there steers v.0 high none h4.marks.high_is) in
      let all = grows-both ms q.0 x.0 q.1 (grows-both q.0 v.0 x.0 from_q x.1) in
      onward steers ms x.0 (both context m) (drawn_choice past.0.read second.0 first.0 (takes past.0 spot high second.1)) all
      (choice-marked steers past.0.read second.0 first.0 (takes past.0 spot high second.1) x.0 (both context m) x.2
      (low-context steers z context names x.0 past.0.read m (low-grows steers q.0 x.0 (grows-both q.0 v.0 x.0 from_q x.1) past.0.read context q.3.reads))
      (low-in steers z context names x.0 second.0.wire b m (λ k. inr k) (low-grows steers v.0 x.0 x.1 second.0.wire (both context b) v.3))
      (low-in steers z context names x.0 first.0.wire a m (λ k. inl k) (low-grows steers u.0 x.0 (grows-both u.0 v.0 x.0 v.1 x.1) first.0.wire (both context a) u.3)))

  -- ---- sampled values

  pub draws-sampled : (spot : Place) (x : List ℕ) (a : Sources) (P : Place → Sketch → Type 0) (f : Place → Sketch → Value × Sketch) → ((other : Place) → Drawing other a (P other) (f other)) → Drawing spot (both (names x) a) (λ s. P (outside_of spot s) s) (λ s. sampled (value_in z x).wire (f (outside_of spot s) s))
  draws-sampled spot x a P f d s ms j h =
      let m = both context (both (names x) a) in
      let outside = outside_of spot s in
      let v = d outside s ms j (record { marks = h.marks; placed = placed-clock steers ms spot (outer_clock spot.clock s) context h.placed; seen = h.seen }) in
      let r = f outside s in
      let c = steps.copy-marked steers r.0 r.1 v.0 m v.2 (low-in steers z context names v.0 r.0.wire a (both (names x) a) (λ k. inr k) v.3) in
      let g = grows-both ms v.0 c.0 v.1 c.1 in (
        c.0,
        g,
        steps.read-marked steers (copy r.0 r.1).0 (value_in z x).wire (copy r.0 r.1).1 c.0 m c.2 c.3 (low-in steers z context names c.0 (value_in z x).wire (names x) (both (names x) a) (λ k. inl k) (low-grows steers ms c.0 g (value_in z x).wire (both context (names x)) (h.seen.values x))),
        low-own steers c.0 (copy r.0 r.1).0 m c.3,
      )
