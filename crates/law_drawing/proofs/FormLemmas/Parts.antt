-- Slots, clocks, places, registers and chains keep that each wire fits.
use Rattle.std.proofs.Common.{◌≡◌, ℕ, zero, suc, ◌+◌, ◌<◌, List, [], ◌∷◌, ◌++◌, length, map, refl, sym, ap, subst, ◌∙◌, inl, inr, arith}
use Rattle.std.specs.Prelude.{⊤}
use Rattle.std.specs.List.{slice_get}
use Rattle.std.proofs.lemmas.Option.{same_Some, none-some}
use Rattle.hp_circuit.specs.declared.circuit.Role.{Role}
use Rattle.hp_circuit.specs.declared.circuit.Role.TheVariants as role
use Rattle.hp_circuit.specs.declared.circuit.Shape.{Shape}
use Rattle.hp_circuit.specs.declared.circuit.Shape.TheVariants.{Truth, Cons, Mark}
use Rattle.hp_circuit.specs.declared.circuit.Slot.{Slot}
use Rattle.hp_circuit.specs.declared.circuit.Wire.TheVariants as wire
use Rattle.hp_circuit.specs.Forms.{IsShape, IsValue}
use Rattle.hp_drawing.specs.declared.parts.Clock.{Clock}
use Rattle.hp_drawing.specs.declared.parts.Place.{Place}
use Rattle.hp_drawing.specs.declared.parts.Register.{Register}
use Rattle.hp_drawing.specs.declared.parts.Value.{Value}
use Rattle.hp_drawing.specs.Sketch.{Sketch, low, high, push, set, read, hole, and_gate, or_gate, choose_gate, next_slot, mark, slot, given, set_next, set_next_at, next_as, add_clock, inner_clock, holds, holds_by}
use Rattle.hp_drawing.specs.Places.{there, within, reset_by, called_at, on_clock, new_register, takes, chain_add, chain_add_as, chain_end}
use Rattle.law_drawing.specs.Steered.Marks.{Each}
use Rattle.law_drawing.proofs.SteeredLemmas.Steps.{all-next}
use Rattle.law_drawing.proofs.FormLemmas.Views.{each-into, IsReadThere, reads-grow, clock-grows, holed-made, Has, get-front, map-next, map-last, slot_by, shape_of, View, view_of, Grows, grows-none, Among, RoleIs, SlotIs, AreSlots, IsTruthClock, AreFormed, IsFormed, IsHole, all-fit-grows, slots-grow, Step, Made, Holed, onward, has-on, hole-on, shape-is}
use Rattle.law_drawing.proofs.FormLemmas.Steps.{fit-next, next-has, gate, read-step, set-step, mark-step, hole-step, and-step, or-step, choose-step}

-- ---- slots

slots-next : (v : View) (P : List ℕ) (i n : ℕ) (cs : List Slot) (x : Slot) → n ≡ i + length cs → AreSlots v P i cs → SlotIs v P n x → AreSlots v P i (cs ++ x ∷ [])
slots-next v P i n [] x e h k = (subst (λ j. SlotIs v P j x) (e ∙ (let z : i + 0 ≡ i = omega arith in z)) k, tt)
slots-next v P i n (c ∷ cs) x e h k = (h.0, slots-next v P (suc i) n cs x (e ∙ (let z : i + suc (length cs) ≡ suc i + length cs = omega arith in z)) h.1 k)

-- other registers are pending
role-weak : (v : View) (P Q : List ℕ) (i : ℕ) (p : Shape) (r : Role) → ((j : ℕ) → Among P j → Among Q j) → RoleIs v P i p r → RoleIs v Q i p r
role-weak v P Q i p (role.Register first next) f h = (h.0, elim h.1 [ inl k ↦ inl k | inr k ↦ inr (f i k) ])
role-weak v P Q i p role.Input f h = tt
role-weak v P Q i p role.Control f h = tt
role-weak v P Q i p (role.Free early) f h = tt

slots-weak : (v : View) (P Q : List ℕ) (i : ℕ) (cs : List Slot) → ((j : ℕ) → Among P j → Among Q j) → AreSlots v P i cs → AreSlots v Q i cs
slots-weak v P Q i [] f h = tt
slots-weak v P Q i (c ∷ cs) f h = ((h.0.0, h.0.1, role-weak v P Q i c.shape c.role f h.0.2), slots-weak v P Q (suc i) cs f h.1)

pub weaken : (P Q : List ℕ) (s : Sketch) → ((j : ℕ) → Among P j → Among Q j) → IsFormed P s → IsFormed Q s
weaken P Q s f a = record {
  wires = a.wires;
  shaped = a.shaped;
  slots = slots-weak (view_of s) P Q 0 s.slots f a.slots;
  reads = a.reads;
  clocks = a.clocks;
  low_is = a.low_is;
  high_is = a.high_is;
  assume_is = a.assume_is;
  hyp_is = a.hyp_is;
  duty_is = a.duty_is;
}

pub weaken-one : (P : List ℕ) (n : ℕ) (s : Sketch) → IsFormed P s → IsFormed (n ∷ P) s
weaken-one P n s a = weaken P (n ∷ P) s (λ j k. inr k) a

-- a slot with its wire, where its role is right behind it
pub slot-step : (P : List ℕ) (r : Role) (p : Shape) (s : Sketch) → IsFormed P s → IsShape p → ((v : View) → Grows (view_of s) v → RoleIs v P (next_slot s) p r) → Made P s p (slot r p s) × Has (map shape_of (slot r p s).1.slots) (next_slot s) p
unfolding slot next_slot push
slot-step P r p s a i right =
    let w = wire.Slot (length s.slots) in
    let x : Slot = record { role = r; shape = p; wire = length s.wires } in
    let v : View = record { shapes = s.shapes ++ p ∷ []; owners = map slot_by (s.wires ++ w ∷ []); slots = map shape_of (s.slots ++ x ∷ []) } in
    let g : Grows (view_of s) v = record {
      shapes = λ j q h. get-front s.shapes (p ∷ []) j q h;
      owners = λ j o h. subst (λ l. Has l j o) (sym (map-next slot_by s.wires w)) (get-front (map slot_by s.wires) (slot_by w ∷ []) j o h);
      slots = λ j q h. subst (λ l. Has l j q) (sym (map-next shape_of s.slots x)) (get-front (map shape_of s.slots) (p ∷ []) j q h);
    } in
    let is : SlotIs v P (length s.slots) x = (next-has P p s a, map-last slot_by s.wires w, right v g) in
    let formed : AreFormed v P (slot r p s).1 = record {
      wires = fit-next v s.wires s.shapes w p (all-fit-grows (view_of s) v g s.wires s.shapes a.wires) (map-last shape_of s.slots x);
      shaped = all-next IsShape s.shapes p a.shaped i;
      slots = slots-next v P 0 (length s.slots) s.slots x (let z : length s.slots ≡ 0 + length s.slots = omega arith in z) (slots-grow (view_of s) v g P 0 s.slots a.slots) is;
      reads = each-into (IsReadThere (view_of s)) (IsReadThere v) (reads-grow (view_of s) v g) s.reads a.reads;
      clocks = each-into (IsTruthClock (view_of s)) (IsTruthClock v) (clock-grows (view_of s) v g) s.clocks a.clocks;
      low_is = g.shapes low Truth a.low_is;
      high_is = g.shapes high Truth a.high_is;
      assume_is = g.shapes s.assume Truth a.assume_is;
      hyp_is = g.shapes s.hyp Truth a.hyp_is;
      duty_is = g.shapes s.duty Truth a.duty_is;
    } in
    ((record { grows = g; formed = formed }, next-has P p s a), map-last shape_of s.slots x)

-- a role that no register has
abbrev pub IsGiven : Role → Type 0
IsGiven (role.Register first next) = ⊥
IsGiven role.Input = ⊤
IsGiven role.Control = ⊤
IsGiven (role.Free early) = ⊤

given-role : (v : View) (P : List ℕ) (i : ℕ) (p : Shape) (r : Role) → IsGiven r → RoleIs v P i p r
given-role v P i p (role.Register first next) h = absurd h
given-role v P i p role.Input h = tt
given-role v P i p role.Control h = tt
given-role v P i p (role.Free early) h = tt

pub given-slot-step : (P : List ℕ) (r : Role) (p : Shape) (s : Sketch) → IsFormed P s → IsShape p → IsGiven r → Made P s p (slot r p s)
given-slot-step P r p s a i h = (slot-step P r p s a i (λ v g. given-role v P (next_slot s) p r h)).0

pub given-step : (P : List ℕ) (r : Role) (p : Shape) (s : Sketch) → IsFormed P s → IsShape p → IsGiven r → Made P s p (given r p s)
unfolding given
given-step P r Mark s a i h = holed-made P s Mark (mark s) (mark-step P s a)
given-step P r Truth s a i h = given-slot-step P r Truth s a i h
given-step P r (Cons n) s a i h = given-slot-step P r (Cons n) s a i h

-- ---- what a register takes next

later-slots : (v : View) (P : List ℕ) (k j : ℕ) (cs : List Slot) → k < j → AreSlots v (k ∷ P) j cs → AreSlots v P j cs
later-slots v P k j [] l h = tt
later-slots v P k j (c ∷ cs) l h = ((h.0.0, h.0.1, right c.role h.0.2), later-slots v P k (suc j) cs (omega (arith, l)) h.1)
  where
    other : Among (k ∷ P) j → Among P j
    other (inl e) = absurd (omega (arith, l, e))
    other (inr m) = m

    right : (r : Role) → RoleIs v (k ∷ P) j c.shape r → RoleIs v P j c.shape r
    right (role.Register first next) q = (q.0, elim q.1 [ inl m ↦ inl m | inr m ↦ inr (other m) ])
    right role.Input q = tt
    right role.Control q = tt
    right (role.Free early) q = tt

told-role : (v : View) (P Q : List ℕ) (i next : ℕ) (p : Shape) (r : Role) → Has v.shapes next p → RoleIs v Q i p r → RoleIs v P i p (next_as r next)
told-role v P Q i next p (role.Register first old) h q = (q.0, inl h)
told-role v P Q i next p role.Input h q = tt
told-role v P Q i next p role.Control h q = tt
told-role v P Q i next p (role.Free early) h q = tt

told-slots : (v : View) (P : List ℕ) (k m n : ℕ) (cs : List Slot) (p : Shape) (next : ℕ) → m ≡ k + n → AreSlots v (m ∷ P) k cs → Has (map shape_of cs) n p → Has v.shapes next p → AreSlots v P k (set_next_at cs n next)
told-slots v P k m n [] p next e h q x = absurd (none-some p q)
told-slots v P k m zero (c ∷ cs) p next e h q x =
    let at : m ≡ k = e ∙ (let z : k + 0 ≡ k = omega arith in z) in
    ((h.0.0, h.0.1, told-role v P (m ∷ P) k next c.shape c.role (subst (λ y. Has v.shapes next y) (sym (same_Some c.shape p q)) x) h.0.2), later-slots v P m (suc k) cs (omega (arith, at)) h.1)
told-slots v P k m (suc n) (c ∷ cs) p next e h q x = ((h.0.0, h.0.1, right c.role h.0.2), told-slots v P (suc k) m n cs p next (e ∙ (let z : k + suc n ≡ suc k + n = omega arith in z)) h.1 q x)
  where
    other : Among (m ∷ P) k → Among P k
    other (inl i) = absurd (omega (arith, i, e))
    other (inr j) = j

    right : (r : Role) → RoleIs v (m ∷ P) k c.shape r → RoleIs v P k c.shape r
    right (role.Register first next) j = (j.0, elim j.1 [ inl i ↦ inl i | inr i ↦ inr (other i) ])
    right role.Input j = tt
    right role.Control j = tt
    right (role.Free early) j = tt

slots-same : (cs : List Slot) (n next : ℕ) → map shape_of cs ≡ map shape_of (set_next_at cs n next)
slots-same [] n next = refl
slots-same (c ∷ cs) zero next = refl
slots-same (c ∷ cs) (suc n) next = ap (λ l. c.shape ∷ l) (slots-same cs n next)

pub set_next-step : (P : List ℕ) (n next : ℕ) (p : Shape) (s : Sketch) → IsFormed (n ∷ P) s → Has (map shape_of s.slots) n p → Has s.shapes next p → Step P s (set_next n next s)
unfolding set_next
set_next-step P n next p s a q x =
    let same : view_of s ≡ view_of (set_next n next s) = ap (λ l. record { shapes = s.shapes; owners = map slot_by s.wires; slots = l }) (slots-same s.slots n next) in
    let formed : AreFormed (view_of s) P (set_next n next s) = record {
      wires = a.wires;
      shaped = a.shaped;
      slots = told-slots (view_of s) P 0 n n s.slots p next (let z : n ≡ 0 + n = omega arith in z) a.slots q x;
      reads = a.reads;
      clocks = a.clocks;
      low_is = a.low_is;
      high_is = a.high_is;
      assume_is = a.assume_is;
      hyp_is = a.hyp_is;
      duty_is = a.duty_is;
    } in
    record { grows = subst (Grows (view_of s)) same (grows-none (view_of s)); formed = subst (λ v. AreFormed v P (set_next n next s)) same formed }

-- ---- clocks

clock-truth : (v : View) (cs : List Clock) (k : ℕ) → Has v.shapes high Truth → Each (IsTruthClock v) cs → Has v.shapes (holds_by (slice_get cs k)) Truth
clock-truth v [] k t h = t
clock-truth v (c ∷ cs) zero t h = h.0
clock-truth v (c ∷ cs) (suc k) t h = clock-truth v cs k t h.1

pub holds-truth : (P : List ℕ) (clock : ℕ) (s : Sketch) → IsFormed P s → Has s.shapes (holds clock s) Truth
unfolding holds
holds-truth P clock s a = clock-truth (view_of s) s.clocks clock a.high_is a.clocks

pub add_clock-step : (P : List ℕ) (h outer : ℕ) (s : Sketch) → IsFormed P s → Has s.shapes h Truth → Step P s (add_clock h outer s).1
unfolding add_clock
add_clock-step P h outer s a t = record {
  grows = grows-none (view_of s);
  formed = record {
    wires = a.wires;
    shaped = a.shaped;
    slots = a.slots;
    reads = a.reads;
    clocks = all-next (IsTruthClock (view_of s)) s.clocks (record { holds = h; outer = outer }) a.clocks t;
    low_is = a.low_is;
    high_is = a.high_is;
    assume_is = a.assume_is;
    hyp_is = a.hyp_is;
    duty_is = a.duty_is;
  };
}

pub inner_clock-step : (P : List ℕ) (clock step : ℕ) (s : Sketch) → IsFormed P s → Has s.shapes step Truth → Step P s (inner_clock clock step s).1
unfolding inner_clock
inner_clock-step P clock step s a t =
    let d = and_gate (holds clock s) step s in
    let h = and-step P (holds clock s) step s a (holds-truth P clock s a) t in
    onward P P s d.1 (add_clock d.0 clock d.1).1 h.0 (add_clock-step P d.0 clock d.1 h.0.formed h.1)

-- ---- places

-- what is told of a place are truth values
pub record IsPlaced (s : Sketch) (p : Place) : Type 0 where
  pub here : Has s.shapes p.here Truth
  pub cut : Has s.shapes p.cut Truth
  pub kept : Has s.shapes p.kept Truth

pub placed-on : (P : List ℕ) (s s' : Sketch) (p : Place) → Step P s s' → IsPlaced s p → IsPlaced s' p
placed-on P s s' p st h = record { here = has-on P s s' p.here Truth st h.here; cut = has-on P s s' p.cut Truth st h.cut; kept = has-on P s s' p.kept Truth st h.kept }

pub placed-clock : (s : Sketch) (p : Place) (clock : ℕ) → IsPlaced s p → IsPlaced s (on_clock p clock)
placed-clock s p clock h = record { here = h.here; cut = h.cut; kept = h.kept }

abbrev pub Placed : List ℕ → Sketch → Place × Sketch → Type 0
Placed P s d = Step P s d.1 × IsPlaced d.1 d.0

pub there-step : (P : List ℕ) (p : Place) (s : Sketch) → IsFormed P s → IsPlaced s p → Made P s Truth (there p s)
unfolding there
there-step P p s a h = and-step P p.here (holds p.clock s) s a h.here (holds-truth P p.clock s a)

pub within-step : (P : List ℕ) (p : Place) (c : ℕ) (s : Sketch) → IsFormed P s → IsPlaced s p → Has s.shapes c Truth → Placed P s (within p c s)
unfolding within
within-step P p c s a h t =
    let d = and_gate p.here c s in
    let e = and-step P p.here c s a h.here t in
    (e.0, record { here = e.1; cut = has-on P s d.1 p.cut Truth e.0 h.cut; kept = has-on P s d.1 p.kept Truth e.0 h.kept })

pub reset-step : (P : List ℕ) (p : Place) (c : ℕ) (s : Sketch) → IsFormed P s → IsPlaced s p → Has s.shapes c Truth → Placed P s (reset_by p c s)
unfolding reset_by
reset-step P p c s a h t =
    let cut = or_gate p.cut c s in
    let d = or-step P p.cut c s a h.cut t in
    let kept = choose_gate p.here cut.0 p.kept Truth cut.1 in
    let e = choose-step P p.here cut.0 p.kept Truth cut.1 d.0.formed (has-on P s cut.1 p.here Truth d.0 h.here) d.1 (has-on P s cut.1 p.kept Truth d.0 h.kept) in
    let st = onward P P s cut.1 kept.1 d.0 e.0 in
    (st, record { here = has-on P s kept.1 p.here Truth st h.here; cut = has-on P cut.1 kept.1 cut.0 Truth e.0 d.1; kept = e.1 })

pub called-step : (P : List ℕ) (p : Place) (s : Sketch) → IsFormed P s → IsPlaced s p → Placed P s (called_at p s)
unfolding called_at
called-step P p s a h =
    let d = there p s in
    let e = there-step P p s a h in
    (e.0, record { here = e.1; cut = has-on P s d.1 p.cut Truth e.0 h.cut; kept = has-on P s d.1 p.kept Truth e.0 h.kept })

-- ---- registers

-- a register of this shape: its slot, what is read of it, and what it keeps
pub record IsRegister (s : Sketch) (r : Register) (p : Shape) : Type 0 where
  pub shape : r.shape ≡ p
  pub slot : Has (map shape_of s.slots) r.slot p
  pub read : Has s.shapes r.read p
  pub keeps : Has s.shapes r.keeps p

pub register-on : (P : List ℕ) (s s' : Sketch) (r : Register) (p : Shape) → Step P s s' → IsRegister s r p → IsRegister s' r p
register-on P s s' r p st h = record { shape = h.shape; slot = st.grows.slots r.slot p h.slot; read = has-on P s s' r.read p st h.read; keeps = has-on P s s' r.keeps p st h.keeps }

-- a new register, of which it is not said yet what it takes
pub register-step : (P : List ℕ) (place : Place) (first : ℕ) (p : Shape) (s : Sketch) → IsFormed P s → IsPlaced s place → IsShape p → IsValue p first
    → Step ((new_register place first p s).0.slot ∷ P) s (new_register place first p s).1 × IsRegister (new_register place first p s).1 (new_register place first p s).0 p
unfolding new_register
register-step P place first p s a h i k =
    let Q = next_slot s ∷ P in
    let held = slot (role.Register first low) p s in
    let d = slot-step Q (role.Register first low) p s (weaken-one P (next_slot s) s a) i (λ v g. (k, inr (inl refl))) in
    let start = push (wire.Constant first) p held.1 in
    let e = gate Q (wire.Constant first) p held.1 d.0.0.formed i k in
    let to_start = onward Q Q s held.1 start.1 d.0.0 e.0 in
    let at_held = has-on Q held.1 start.1 held.0 p e.0 d.0.1 in
    let read = choose_gate place.cut start.0 held.0 p start.1 in
    let f = choose-step Q place.cut start.0 held.0 p start.1 e.0.formed (has-on Q s start.1 place.cut Truth to_start h.cut) e.1 at_held in
    let to_read = onward Q Q s start.1 read.1 to_start f.0 in
    let keeps = choose_gate place.kept start.0 held.0 p read.1 in
    let g = choose-step Q place.kept start.0 held.0 p read.1 f.0.formed (has-on Q s read.1 place.kept Truth to_read h.kept) (has-on Q start.1 read.1 start.0 p f.0 e.1) (has-on Q start.1 read.1 held.0 p f.0 at_held) in
    let from_held = onward Q Q held.1 read.1 keeps.1 (onward Q Q held.1 start.1 read.1 e.0 f.0) g.0 in
    (onward Q Q s read.1 keeps.1 to_read g.0, record { shape = refl; slot = from_held.grows.slots (next_slot s) p d.1; read = has-on Q read.1 keeps.1 read.0 p g.0 f.1; keeps = g.1 })

-- it takes a wire of its shape
pub takes-step : (P : List ℕ) (r : Register) (place : Place) (w : ℕ) (p : Shape) (s : Sketch) → IsFormed (r.slot ∷ P) s → IsPlaced s place → IsRegister s r p → Has s.shapes w p → Step P s (takes r place w s)
unfolding takes
takes-step P r place w p s a h reg k =
    let Q = r.slot ∷ P in
    let t = there place s in
    let d = there-step Q place s a h in
    let next = choose_gate t.0 w r.keeps r.shape t.1 in
    let e = choose-step Q t.0 w r.keeps r.shape t.1 d.0.formed d.1 (subst (λ q. Has t.1.shapes w q) (sym reg.shape) (has-on Q s t.1 w p d.0 k)) (subst (λ q. Has t.1.shapes r.keeps q) (sym reg.shape) (has-on Q s t.1 r.keeps p d.0 reg.keeps)) in
    let to_next = onward Q Q s t.1 next.1 d.0 e.0 in
    let f = set_next-step P r.slot next.0 p next.1 e.0.formed (to_next.grows.slots r.slot p reg.slot) (subst (λ q. Has next.1.shapes next.0 q) reg.shape e.1) in
    onward Q P s next.1 (set_next r.slot next.0 next.1) to_next f

-- ---- chains: an integer is one wire

pub chain_add-step : (P : List ℕ) (h c : ℕ) (v : Value) (s : Sketch) → IsFormed P s → IsHole s h v.shape → Has s.shapes c Truth → Has s.shapes v.wire v.shape → Holed P s v.shape (chain_add h c v s)
unfolding chain_add
chain_add-step P h c v s a e l k = by v.shape e k
  where
    more : (p : Shape) → IsHole s h p → Has s.shapes v.wire p → Holed P s p (let rest = hole p s in (rest.0, set h (wire.If c v.wire rest.0) rest.1))
    more p e k =
        let rest = hole p s in
        let d = hole-step P p s a (shape-is P s v.wire p a k) in
        let t = set-step P h (wire.If c v.wire rest.0) p rest.1 d.0.formed (hole-on P s rest.1 h p d.0 e) refl (has-on P s rest.1 c Truth d.0 l, has-on P s rest.1 v.wire p d.0 k, d.1.0) in
        (onward P P s rest.1 (set h (wire.If c v.wire rest.0) rest.1) d.0 t, hole-on P rest.1 (set h (wire.If c v.wire rest.0) rest.1) rest.0 p t d.1)

    by : (p : Shape) → IsHole s h p → Has s.shapes v.wire p → Holed P s p (chain_add_as p h c v.wire s)
    by Mark e k =
        let s1 = read h c s in
        let d = read-step P h c s a (Mark, e.0) (Truth, l) in
        let s2 = read h v.wire s1 in
        let t = onward P P s s1 s2 d (read-step P h v.wire s1 d.formed (Mark, has-on P s s1 h Mark d e.0) (Mark, has-on P s s1 v.wire Mark d k)) in
        (t, hole-on P s s2 h Mark t e)
    by Truth e k = more Truth e k
    by (Cons n) e k = more (Cons n) e k

-- zero is a value of each shape
pub zero-value : (p : Shape) → IsShape p → IsValue p 0
zero-value Truth i = omega arith
zero-value (Cons n) i = omega (arith, i)
zero-value Mark i = refl

pub chain_end-step : (P : List ℕ) (h : ℕ) (p : Shape) (s : Sketch) → IsFormed P s → IsHole s h p → Step P s (chain_end h s)
unfolding chain_end
chain_end-step P h p s a e = set-step P h (wire.Constant 0) p s a e refl (zero-value p (shape-is P s h p a e.0))
