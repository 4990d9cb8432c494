-- Delays, sampled values and merges carry the shapes of what they are made of.
use Rattle.std.proofs.Common.{◌≡◌, ℕ, false, Bool, if◌then◌else◌, List, ◌∷◌, refl, sym, subst, inl, inr}
use Rattle.law_values.specs.Valued.Judged.{Lasts}
use Rattle.law_judged.specs.Typed.Scopes.{Scope as TypeScope}
use Rattle.hp_circuit.specs.declared.circuit.Shape.{Shape}
use Rattle.hp_circuit.specs.declared.circuit.Shape.TheVariants.{Truth, Cons, Mark}
use Rattle.hp_circuit.specs.Forms.{IsShape}
use Rattle.hp_drawing.specs.declared.parts.Place.{Place}
use Rattle.hp_drawing.specs.declared.parts.Register.{Register}
use Rattle.hp_drawing.specs.declared.parts.Value.{Value}
use Rattle.hp_drawing.specs.Kept.{is_mark}
use Rattle.hp_drawing.specs.Told.{Told}
use Rattle.hp_drawing.specs.Sketch.{Sketch, high, value, read, hole, define, copy, outer_clock}
use Rattle.hp_drawing.specs.Places.{new_register, takes, chain_add, chain_end}
use Rattle.hp_drawing.specs.Scopes.{Scope, value_in}
use Rattle.hp_drawing.specs.DrawnExpressions.{drawn_choice, delay_begin, delay_take, pre_end, fby_end, outside_of, sampled, merge_begin, merge_end}
use Rattle.law_drawing.proofs.FormLemmas.Views.{Has, Among, IsFormed, IsHole, Step, Holed, still, onward, has-on, hole-on}
use Rattle.law_drawing.proofs.FormLemmas.Steps.{read-step, mark-step, mark-of-step, hole-step, define-step, copy-step}
use Rattle.law_drawing.proofs.FormLemmas.Parts.{weaken, IsPlaced, placed-on, placed-clock, IsRegister, register-on, register-step, takes-step, chain_add-step, chain_end-step, zero-value}
use Rattle.law_drawing.proofs.FormLemmas.Values.{Carried, Valued, carried-on, behind, choice-step, IsAt, at-on, Draws}

-- ---- values whose shape is known

pub chain-step : (P : List ℕ) (h c : ℕ) (v : Value) (p : Shape) (s : Sketch) → IsFormed P s → IsHole s h p → Has s.shapes c Truth → Carried s v p → Holed P s p (chain_add h c v s)
chain-step P h c v p s a e l k = subst (λ q. Holed P s q (chain_add h c v s)) k.0 (chain_add-step P h c v s a (subst (IsHole s h) (sym k.0) e) l (subst (λ q. Has s.shapes v.wire q) (sym k.0) k.1))

pub said-step : (P : List ℕ) (w : ℕ) (v : Value) (p : Shape) (s : Sketch) → IsFormed P s → IsHole s w p → Carried s v p → Step P s (define w v s)
said-step P w v p s a h k = define-step P w v s a (subst (IsHole s w) (sym k.0) h) (subst (λ q. Has s.shapes v.wire q) (sym k.0) k.1)

-- ---- registers of delays: an integer has none

abbrev pending : Shape → Register → List ℕ → List ℕ
pending p r P = if is_mark p then P else r.slot ∷ P

abbrev IsHeld : Sketch → Shape → Register → Type 0
IsHeld s p r = is_mark p ≡ false → IsRegister s r p

held-on : (P : List ℕ) (s s' : Sketch) (p : Shape) (r : Register) → Step P s s' → IsHeld s p r → IsHeld s' p r
held-on P s s' p r st h e = register-on P s s' r p st (h e)

begin-step : (P : List ℕ) (p : Shape) (spot : Place) (s : Sketch) → IsFormed P s → IsPlaced s spot → IsShape p → Step (pending p (delay_begin p spot s).0 P) s (delay_begin p spot s).1 × IsHeld (delay_begin p spot s).1 p (delay_begin p spot s).0
begin-step P Mark spot s a h i = (still P s a, λ e. absurd cc)
begin-step P Truth spot s a h i = let r = register-step P spot 0 Truth s a h i (zero-value Truth i) in (r.0, λ e. r.1)
begin-step P (Cons n) spot s a h i = let r = register-step P spot 0 (Cons n) s a h i (zero-value (Cons n) i) in (r.0, λ e. r.1)

take-step : (P : List ℕ) (p : Shape) (r : Register) (spot : Place) (w : ℕ) (s : Sketch) → IsFormed (pending p r P) s → IsPlaced s spot → IsHeld s p r → Has s.shapes w p → Step P s (delay_take p r spot w s)
take-step P Mark r spot w s a h k l = still P s a
take-step P Truth r spot w s a h k l = takes-step P r spot w Truth s a h (k refl) l
take-step P (Cons n) r spot w s a h k l = takes-step P r spot w (Cons n) s a h (k refl) l

pre-end-step : (P : List ℕ) (p : Shape) (r : Register) (spot : Place) (d : Value × Sketch) → IsFormed (pending p r P) d.1 → IsPlaced d.1 spot → IsHeld d.1 p r → Has d.1.shapes d.0.wire p → Valued P d.1 p (pre_end p r spot d)
pre-end-step P Mark r spot d a h k l = let m = mark-step P d.1 a in (m.0, (refl, m.1.0))
pre-end-step P Truth r spot d a h k l = let st = takes-step P r spot d.0.wire Truth d.1 a h (k refl) l in (st, (refl, has-on P d.1 (takes r spot d.0.wire d.1) r.read Truth st (k refl).read))
pre-end-step P (Cons n) r spot d a h k l = let st = takes-step P r spot d.0.wire (Cons n) d.1 a h (k refl) l in (st, (refl, has-on P d.1 (takes r spot d.0.wire d.1) r.read (Cons n) st (k refl).read))

fby-end-step : (P : List ℕ) (p : Shape) (r past : Register) (first : Value) (s : Sketch) → IsFormed P s → IsHeld s p r → IsRegister s past Truth → Carried s first p → Valued P s p (fby_end p r past first s)
fby-end-step P Mark r past first s a k q l = let m = mark-of-step P first.wire s a (Mark, l.1) in (m.0, (refl, m.1.0))
fby-end-step P Truth r past first s a k q l = choice-step P past.read (value r.read Truth) first Truth s a q.read (refl, (k refl).read) l
fby-end-step P (Cons n) r past first s a k q l = choice-step P past.read (value r.read (Cons n)) first (Cons n) s a q.read (refl, (k refl).read) l

-- the register of a delay is told before that of the past
turned : (p : Shape) (r : Register) (n : ℕ) (P : List ℕ) (j : ℕ) → Among (n ∷ pending p r P) j → Among (pending p r (n ∷ P)) j
turned Mark r n P j h = h
turned Truth r n P j (inl e) = inr (inl e)
turned Truth r n P j (inr (inl e)) = inl e
turned Truth r n P j (inr (inr m)) = inr (inr m)
turned (Cons k) r n P j (inl e) = inr (inl e)
turned (Cons k) r n P j (inr (inl e)) = inl e
turned (Cons k) r n P j (inr (inr m)) = inr (inr m)

module _ (t : Told) (ts : TypeScope) (has_last : Lasts) (lacks : List ℕ → Bool) (z : Scope) where
  abbrev At : List ℕ → Sketch → Place → Type 0
  At P s spot = IsAt t ts has_last lacks z P s spot

  abbrev Drawing : Place → Shape → (Sketch → Value × Sketch) → Type 0
  Drawing spot p f = Draws t ts has_last lacks z spot p f

  on : (P Q : List ℕ) (s s' : Sketch) (spot : Place) → At P s spot → Step Q s s' → At Q s' spot
  on P Q s s' spot h st = at-on t ts has_last lacks z P Q s s' spot h st

  abbrev pub pre_of : Shape → Place → (Sketch → Value × Sketch) → Sketch → Value × Sketch
  pre_of p spot f s =
      let r = delay_begin p spot s in
      pre_end p r.0 spot (f r.1)

  pub draws-pre : (p : Shape) (spot : Place) (f : Sketch → Value × Sketch) → IsShape p → Drawing spot p f → Drawing spot p (pre_of p spot f)
  draws-pre p spot f i d P s h =
      let r = delay_begin p spot s in
      let Q = pending p r.0 P in
      let b = begin-step P p spot s h.formed h.placed i in
      let at1 = on P Q s r.1 spot h b.0 in
      let v = d Q r.1 at1 in
      let first = f r.1 in
      behind Q P s first.1 p (pre_end p r.0 spot first) (onward Q Q s r.1 first.1 b.0 v.0)
      (pre-end-step P p r.0 spot first v.0.formed (placed-on Q r.1 first.1 spot v.0 at1.placed) (held-on Q r.1 first.1 p r.0 v.0 b.1) v.1.1)

  abbrev pub fby_of : Shape → Place → (Sketch → Value × Sketch) → (Sketch → Value × Sketch) → Sketch → Value × Sketch
  fby_of p spot f g s =
      let r = delay_begin p spot s in
      let past = new_register spot 0 Truth r.1 in
      let first = f past.1 in
      let second = g first.1 in
      fby_end p r.0 past.0 first.0 (takes past.0 spot high (delay_take p r.0 spot second.0.wire second.1))

  pub draws-fby : (p : Shape) (spot : Place) (f g : Sketch → Value × Sketch) → IsShape p → Drawing spot p f → Drawing spot p g → Drawing spot p (fby_of p spot f g)
  draws-fby p spot f g i d e P s h =
      let r = delay_begin p spot s in
      let Q = pending p r.0 P in
      let b = begin-step P p spot s h.formed h.placed i in
      let at1 = on P Q s r.1 spot h b.0 in
      let past = new_register spot 0 Truth r.1 in
      let R = past.0.slot ∷ Q in
      let q = register-step Q spot 0 Truth r.1 at1.formed at1.placed tt (zero-value Truth tt) in
      let at2 = on Q R r.1 past.1 spot at1 q.0 in
      let first = f past.1 in
      let v = d R past.1 at2 in
      let at3 = on R R past.1 first.1 spot at2 v.0 in
      let second = g first.1 in
      let w = e R first.1 at3 in
      let at4 = on R R first.1 second.1 spot at3 w.0 in
      let from_past = onward R R past.1 first.1 second.1 v.0 w.0 in
      let from_r = onward R R r.1 past.1 second.1 q.0 from_past in
      let S = past.0.slot ∷ P in
      let k = held-on R r.1 second.1 p r.0 from_r b.1 in
      let s1 = delay_take p r.0 spot second.0.wire second.1 in
      let x = take-step S p r.0 spot second.0.wire second.1 (weaken R (pending p r.0 S) second.1 (turned p r.0 past.0.slot P) at4.formed) at4.placed k w.1.1 in
      let at5 = on R S second.1 s1 spot at4 x in
      let s2 = takes past.0 spot high s1 in
      let past_is = register-on S second.1 s1 past.0 Truth x (register-on R past.1 second.1 past.0 Truth from_past q.1) in
      let y = takes-step P past.0 spot high Truth s1 at5.formed at5.placed past_is at5.formed.high_is in
      let ends = onward S P second.1 s1 s2 x y in
      behind P P s s2 p (fby_end p r.0 past.0 first.0 s2) (onward R P s second.1 s2 (onward Q R s r.1 second.1 b.0 from_r) ends)
      (fby-end-step P p r.0 past.0 first.0 s2 y.formed (held-on P second.1 s2 p r.0 ends k) (register-on P s1 s2 past.0 Truth y past_is) (carried-on P second.1 s2 first.0 p ends (carried-on R first.1 second.1 first.0 p w.0 v.1)))

  abbrev pub arrow_of : Place → (Sketch → Value × Sketch) → (Sketch → Value × Sketch) → Sketch → Value × Sketch
  arrow_of spot f g s =
      let past = new_register spot 0 Truth s in
      let first = f past.1 in
      let second = g first.1 in
      drawn_choice past.0.read second.0 first.0 (takes past.0 spot high second.1)

  pub draws-arrow : (p : Shape) (spot : Place) (f g : Sketch → Value × Sketch) → Drawing spot p f → Drawing spot p g → Drawing spot p (arrow_of spot f g)
  draws-arrow p spot f g d e P s h =
      let past = new_register spot 0 Truth s in
      let R = past.0.slot ∷ P in
      let q = register-step P spot 0 Truth s h.formed h.placed tt (zero-value Truth tt) in
      let at1 = on P R s past.1 spot h q.0 in
      let first = f past.1 in
      let v = d R past.1 at1 in
      let at2 = on R R past.1 first.1 spot at1 v.0 in
      let second = g first.1 in
      let w = e R first.1 at2 in
      let at3 = on R R first.1 second.1 spot at2 w.0 in
      let from_past = onward R R past.1 first.1 second.1 v.0 w.0 in
      let past_is = register-on R past.1 second.1 past.0 Truth from_past q.1 in
      let s1 = takes past.0 spot high second.1 in
      let y = takes-step P past.0 spot high Truth second.1 at3.formed at3.placed past_is at3.formed.high_is in
      behind P P s s1 p (drawn_choice past.0.read second.0 first.0 s1) (onward R P s second.1 s1 (onward R R s past.1 second.1 q.0 from_past) y)
      (choice-step P past.0.read second.0 first.0 p s1 y.formed (register-on P second.1 s1 past.0 Truth y past_is).read (carried-on P second.1 s1 second.0 p y w.1) (carried-on P second.1 s1 first.0 p y (carried-on R first.1 second.1 first.0 p w.0 v.1)))

  -- ---- sampled values and merges, by the wire of their name

  pub draws-sampled : (spot : Place) (x : List ℕ) (p q : Shape) (f : Place → Sketch → Value × Sketch) → ((P : List ℕ) (s : Sketch) → At P s spot → Has s.shapes (value_in z x).wire q) → ((other : Place) → Drawing other p (f other))
      → Drawing spot p (λ s. sampled (value_in z x).wire (f (outside_of spot s) s))
  draws-sampled spot x p q f name d P s h =
      let outside = outside_of spot s in
      let v = d outside P s (record { formed = h.formed; placed = placed-clock s spot (outer_clock spot.clock s) h.placed; seen = h.seen }) in
      let r = f outside s in
      let c = copy r.0 r.1 in
      let k = copy-step P r.0 r.1 v.0.formed (subst (λ y. Has r.1.shapes r.0.wire y) (sym v.1.0) v.1.1) in
      let to_copy = onward P P s r.1 c.1 v.0 k.0 in
      let s1 = read c.0 (value_in z x).wire c.1 in
      let st = read-step P c.0 (value_in z x).wire c.1 k.0.formed (r.0.shape, k.1.0) (q, has-on P s c.1 (value_in z x).wire q to_copy (name P s h)) in
      (onward P P s c.1 s1 to_copy st, (v.1.0, subst (λ y. Has s1.shapes c.0 y) v.1.0 (has-on P c.1 s1 c.0 r.0.shape st k.1.0)))

  abbrev pub merge_of : Shape → ℕ → (ℕ → Sketch → ℕ × Sketch) → Sketch → Value × Sketch
  merge_of p condition f s =
      let w = merge_begin p condition s in
      merge_end p w.0 (f w.0 w.1)

  -- where no part is taken the value is the one of zeros
  merged : (P : List ℕ) (p : Shape) (w : ℕ) (s : Sketch) (d : ℕ × Sketch) → Has s.shapes w p → Holed P s p d → Valued P s p (merge_end p w d)
  merged P Mark w s d h k = (k.0, (refl, has-on P s d.1 w Mark k.0 h))
  merged P Truth w s d h k = let st = onward P P s d.1 (chain_end d.0 d.1) k.0 (chain_end-step P d.0 Truth d.1 k.0.formed k.1) in (st, (refl, has-on P s (chain_end d.0 d.1) w Truth st h))
  merged P (Cons n) w s d h k = let st = onward P P s d.1 (chain_end d.0 d.1) k.0 (chain_end-step P d.0 (Cons n) d.1 k.0.formed k.1) in (st, (refl, has-on P s (chain_end d.0 d.1) w (Cons n) st h))

  pub draws-merge : (spot : Place) (x : List ℕ) (p q : Shape) (f : ℕ → Sketch → ℕ × Sketch) → IsShape p → ((P : List ℕ) (s : Sketch) → At P s spot → Has s.shapes (value_in z x).wire q)
      → ((P : List ℕ) (w : ℕ) (s : Sketch) → At P s spot → IsHole s w p → Holed P s p (f w s)) → Drawing spot p (merge_of p (value_in z x).wire f)
  draws-merge spot x p q f i name parts P s h =
      let w = hole p s in
      let k = hole-step P p s h.formed i in
      let s1 = read w.0 (value_in z x).wire w.1 in
      let r = read-step P w.0 (value_in z x).wire w.1 k.0.formed (p, k.1.0) (q, has-on P s w.1 (value_in z x).wire q k.0 (name P s h)) in
      let st = onward P P s w.1 s1 k.0 r in
      let e = hole-on P w.1 s1 w.0 p r k.1 in
      let d = parts P w.0 s1 (on P P s s1 spot h st) e in
      behind P P s s1 p (merge_end p w.0 (f w.0 s1)) st (merged P p w.0 s1 (f w.0 s1) e.0 d)
