-- Clocks, registers, chains and places, with marks.
use Rattle.std.proofs.Common.{◌≡◌, ◌⊎◌, Bool, ℕ, zero, suc, false, List, [], ◌∷◌, length, refl, inl, inr}
use Rattle.std.specs.List.{slice_get}
use Rattle.hp_circuit.specs.declared.circuit.Role.{Role}
use Rattle.hp_circuit.specs.declared.circuit.Role.TheVariants as role
use Rattle.hp_circuit.specs.declared.circuit.Shape.{Shape}
use Rattle.hp_circuit.specs.declared.circuit.Shape.TheVariants.{Truth, Cons, Mark as Whole}
use Rattle.hp_circuit.specs.declared.circuit.Slot.{Slot}
use Rattle.hp_circuit.specs.declared.circuit.Wire.TheVariants as wire
use Rattle.hp_drawing.specs.declared.parts.Clock.{Clock}
use Rattle.hp_drawing.specs.declared.parts.Place.{Place}
use Rattle.hp_drawing.specs.declared.parts.Register.{Register}
use Rattle.hp_drawing.specs.declared.parts.Value.{Value}
use Rattle.hp_drawing.specs.Sketch.{Sketch, low, high, push, set, read, hole, not_gate, and_gate, or_gate, choose_gate, next_slot, slot, given, with_slot, set_next, add_clock, inner_clock, holds, holds_by}
use Rattle.hp_drawing.specs.Places.{there, within, reset_by, called_at, on_clock, new_register, takes, chain_add, chain_add_as, chain_end}
use Rattle.law_drawing.specs.Steered.Marks.{Each}
use Rattle.hp_drawing.specs.Kept.{is_mark}
use Rattle.law_drawing.specs.NoCircle.Marks.{Mark, Marks, ground, Most, up, Grows, Has, Low, Under, There, IsClockMarked, Frame, later, AreMarked, IsPlaced}
use Rattle.law_drawing.proofs.NoCircleLemmas.Orders.{most-most, most-less, ground-most, join, join-left, join-right}
use Rattle.law_drawing.proofs.NoCircleLemmas.Steps.{all-next, grows-none, grows-both, has-grows, low-grows, under-grows, there-grows, low-up, low-next, low-under, under-up, low-there, low-own, there-low, Step, Made, Holed, gate, weaken, set-may, set-said, read-marked, mark-marked, hole-marked, hole-behind, not-marked, and-marked, or-marked, choose-marked}

-- ---- slots

with_slot-marked : {F : Frame} (x : Slot) (s : Sketch) (ms : Marks) → AreMarked F s ms → AreMarked F (with_slot x s) ms
with_slot-marked x s ms a = record {
  wires = a.wires;
  first_shapes = a.first_shapes;
  as_many = a.as_many;
  reads = a.reads;
  clocks = a.clocks;
  low_is = a.low_is;
  high_is = a.high_is;
  hyp_is = a.hyp_is;
  duty_is = a.duty_is;
}

pub slot-marked : {F : Frame} (r : Role) (p : Shape) (s : Sketch) (ms : Marks) (m : Mark) → AreMarked F s ms → Holed F ms m (slot r p s)
unfolding slot next_slot push
slot-marked r p s ms m a =
    let d = gate (wire.Slot (length s.slots)) p s ms m a tt in
    let w = (push (wire.Slot (length s.slots)) p s).0 in
    (d.0, d.1, with_slot-marked (record { role = r; shape = p; wire = w }) (push (wire.Slot (length s.slots)) p s).1 d.0 d.2, d.3)

pub given-marked : {F : Frame} (r : Role) (p : Shape) (s : Sketch) (ms : Marks) (m : Mark) → AreMarked F s ms → Holed F ms m (given r p s)
unfolding given
given-marked r Whole s ms m a = mark-marked s ms m a
given-marked r Truth s ms m a = slot-marked r Truth s ms m a
given-marked r (Cons n) s ms m a = slot-marked r (Cons n) s ms m a

pub set_next-marked : {F : Frame} (number next : ℕ) (s : Sketch) (ms : Marks) → AreMarked F s ms → AreMarked F (set_next number next s) ms
unfolding set_next
set_next-marked number next s ms a = record {
  wires = a.wires;
  first_shapes = a.first_shapes;
  as_many = a.as_many;
  reads = a.reads;
  clocks = a.clocks;
  low_is = a.low_is;
  high_is = a.high_is;
  hyp_is = a.hyp_is;
  duty_is = a.duty_is;
}

-- ---- clocks

clock_there : (ms : Marks) (clocks : List Clock) (k : ℕ) → There ms high → Each (IsClockMarked ms) clocks → There ms (holds_by (slice_get clocks k))
clock_there ms [] k t h = t
clock_there ms (c ∷ clocks) zero t h = h.0
clock_there ms (c ∷ clocks) (suc k) t h = clock_there ms clocks k t h.1

pub holds-there : {F : Frame} (clock : ℕ) (s : Sketch) (ms : Marks) → AreMarked F s ms → There ms (holds clock s)
unfolding holds
holds-there clock s ms a = clock_there ms s.clocks clock (low-there ms high ground a.high_is) a.clocks

pub add_clock-marked : {F : Frame} (h outer : ℕ) (s : Sketch) (ms : Marks) → AreMarked F s ms → There ms h → AreMarked F (add_clock h outer s).1 ms
unfolding add_clock
add_clock-marked h outer s ms a t = record {
  wires = a.wires;
  first_shapes = a.first_shapes;
  as_many = a.as_many;
  reads = a.reads;
  clocks = all-next (IsClockMarked ms) s.clocks (record { holds = h; outer = outer }) a.clocks t;
  low_is = a.low_is;
  high_is = a.high_is;
  hyp_is = a.hyp_is;
  duty_is = a.duty_is;
}

-- ---- gates of wires that may have any mark

abbrev pub MadeThere : Frame → Marks → ℕ × Sketch → Type 0
MadeThere F ms d = (ms' : Marks) × Grows ms ms' × AreMarked F d.1 ms' × There ms' d.0

made-there : {F : Frame} (ms : Marks) (m : Mark) (d : ℕ × Sketch) → Made F ms m d → MadeThere F ms d
made-there ms m d h = (h.0, h.1, h.2, low-there h.0 d.0 m h.3)

-- a mark above one wire of two, and above the other
first-under : (ms : Marks) (x : ℕ) (t : There ms x) (m : Mark) → Under ms x (up 1 (join t.mark m))
first-under ms x t m = low-next ms x (join t.mark m) (low-up ms x t.mark (join t.mark m) (join-left t.mark m) (there-low ms x t))

second-under : (ms : Marks) (x : ℕ) (t : There ms x) (m : Mark) → Under ms x (up 1 (join m t.mark))
second-under ms x t m = low-next ms x (join m t.mark) (low-up ms x t.mark (join m t.mark) (join-right m t.mark) (there-low ms x t))

pub not-there : {F : Frame} (x : ℕ) (s : Sketch) (ms : Marks) → AreMarked F s ms → There ms x → MadeThere F ms (not_gate x s)
not-there x s ms a t = made-there ms (up 1 t.mark) (not_gate x s) (not-marked x s ms (up 1 t.mark) a (low-next ms x t.mark (there-low ms x t)))

pub and-there : {F : Frame} (x y : ℕ) (s : Sketch) (ms : Marks) → AreMarked F s ms → There ms x → There ms y → MadeThere F ms (and_gate x y s)
and-there x y s ms a t u = made-there ms (up 1 (join t.mark u.mark)) (and_gate x y s) (and-marked x y s ms (up 1 (join t.mark u.mark)) a (first-under ms x t u.mark) (second-under ms y u t.mark))

pub or-there : {F : Frame} (x y : ℕ) (s : Sketch) (ms : Marks) → AreMarked F s ms → There ms x → There ms y → MadeThere F ms (or_gate x y s)
or-there x y s ms a t u = made-there ms (up 1 (join t.mark u.mark)) (or_gate x y s) (or-marked x y s ms (up 1 (join t.mark u.mark)) a (first-under ms x t u.mark) (second-under ms y u t.mark))

pub choose-there : {F : Frame} (c x y : ℕ) (p : Shape) (s : Sketch) (ms : Marks) → AreMarked F s ms → There ms c → There ms x → There ms y → MadeThere F ms (choose_gate c x y p s)
choose-there c x y p s ms a t u v =
    let m = join t.mark (join u.mark v.mark) in
    made-there ms (up 1 m) (choose_gate c x y p s)
    (choose-marked c x y p s ms (up 1 m) a (first-under ms c t (join u.mark v.mark))
    (low-next ms x m (low-up ms x u.mark m (most-most u.mark (join u.mark v.mark) m (join-left u.mark v.mark) (join-right t.mark (join u.mark v.mark))) (there-low ms x u)))
    (low-next ms y m (low-up ms y v.mark m (most-most v.mark (join u.mark v.mark) m (join-right u.mark v.mark) (join-right t.mark (join u.mark v.mark))) (there-low ms y v))))

pub inner_clock-marked : {F : Frame} (clock step : ℕ) (s : Sketch) (ms : Marks) → AreMarked F s ms → There ms step → Step F ms (inner_clock clock step s).1
unfolding inner_clock
inner_clock-marked clock step s ms a t =
    let d = and-there (holds clock s) step s ms a (holds-there clock s ms a) t in
    (d.0, d.1, add_clock-marked (and_gate (holds clock s) step s).0 clock (and_gate (holds clock s) step s).1 d.0 d.2 d.3)

-- ---- places

pub placed-grows : (ms ms' : Marks) → Grows ms ms' → (p : Place) (context : Mark) → IsPlaced ms p context → IsPlaced ms' p context
placed-grows ms ms' g p context h = record { cut = under-grows ms ms' g p.cut context h.cut; here = there-grows ms ms' g p.here h.here; kept = there-grows ms ms' g p.kept h.kept }

pub placed-up : (ms : Marks) (p : Place) (a b : Mark) → Most a b → IsPlaced ms p a → IsPlaced ms p b
placed-up ms p a b f h = record { cut = under-up ms p.cut a b f h.cut; here = h.here; kept = h.kept }

pub placed-clock : (ms : Marks) (p : Place) (clock : ℕ) (context : Mark) → IsPlaced ms p context → IsPlaced ms (on_clock p clock) context
placed-clock ms p clock context h = record { cut = h.cut; here = h.here; kept = h.kept }

-- whether it is there may have any mark
pub there-marked : {F : Frame} (p : Place) (s : Sketch) (ms : Marks) (context : Mark) → AreMarked F s ms → IsPlaced ms p context → MadeThere F ms (there p s)
unfolding there
there-marked p s ms context a h = and-there p.here (holds p.clock s) s ms a h.here (holds-there p.clock s ms a)

pub within-marked : {F : Frame} (p : Place) (c : ℕ) (s : Sketch) (ms : Marks) (context : Mark) → AreMarked F s ms → IsPlaced ms p context → There ms c
    → (ms' : Marks) × Grows ms ms' × AreMarked F (within p c s).1 ms' × IsPlaced ms' (within p c s).0 context
unfolding within
within-marked p c s ms context a h t =
    let d = and-there p.here c s ms a h.here t in
    (d.0, d.1, d.2, record { cut = under-grows ms d.0 d.1 p.cut context h.cut; here = d.3; kept = there-grows ms d.0 d.1 p.kept h.kept })

-- the body of a `reset` is cut by its condition besides
pub reset-marked : {F : Frame} (p : Place) (c : ℕ) (s : Sketch) (ms : Marks) (context m : Mark) → AreMarked F s ms → IsPlaced ms p context → Most context m → Under ms c m
    → (ms' : Marks) × Grows ms ms' × AreMarked F (reset_by p c s).1 ms' × IsPlaced ms' (reset_by p c s).0 (up 1 m)
unfolding reset_by
reset-marked p c s ms context m a h f l =
    let cut = or_gate p.cut c s in
    let d = or-marked p.cut c s ms m a (under-up ms p.cut context m f h.cut) l in
    let here = there-grows ms d.0 d.1 p.here h.here in
    let kept = there-grows ms d.0 d.1 p.kept h.kept in
    let e = choose-there p.here cut.0 p.kept Truth cut.1 d.0 d.2 here (low-there d.0 cut.0 m d.3) kept in
    (e.0, grows-both ms d.0 e.0 d.1 e.1, e.2, record { cut = low-next e.0 cut.0 m (low-grows d.0 e.0 e.1 cut.0 m d.3); here = there-grows d.0 e.0 e.1 p.here here; kept = e.3 })

pub called-marked : {F : Frame} (p : Place) (s : Sketch) (ms : Marks) (context : Mark) → AreMarked F s ms → IsPlaced ms p context
    → (ms' : Marks) × Grows ms ms' × AreMarked F (called_at p s).1 ms' × IsPlaced ms' (called_at p s).0 context
unfolding called_at
called-marked p s ms context a h =
    let e = there-marked p s ms context a h in
    (e.0, e.1, e.2, record { cut = under-grows ms e.0 e.1 p.cut context h.cut; here = e.3; kept = there-grows ms e.0 e.1 p.kept h.kept })

-- ---- registers

-- a register: what is read of it reads what cuts its place; what it keeps is there
pub record IsRegistered (ms : Marks) (r : Register) (context : Mark) : Type 0 where
  pub reads : Low ms r.read context
  pub keeps : There ms r.keeps

pub registered-grows : (ms ms' : Marks) → Grows ms ms' → (r : Register) (context : Mark) → IsRegistered ms r context → IsRegistered ms' r context
registered-grows ms ms' g r context h = record { reads = low-grows ms ms' g r.read context h.reads; keeps = there-grows ms ms' g r.keeps h.keeps }

pub new_register-marked : {F : Frame} (p : Place) (first : ℕ) (shape : Shape) (s : Sketch) (ms : Marks) (context : Mark) → AreMarked F s ms → IsPlaced ms p context
    → (ms' : Marks) × Grows ms ms' × AreMarked F (new_register p first shape s).1 ms' × IsRegistered ms' (new_register p first shape s).0 context
unfolding new_register
new_register-marked p first shape s ms context a h =
    let held = slot (role.Register first low) shape s in
    let d = slot-marked (role.Register first low) shape s ms ground a in
    let start = push (wire.Constant first) shape held.1 in
    let e = gate (wire.Constant first) shape held.1 d.0 ground d.2 tt in
    let g = grows-both ms d.0 e.0 d.1 e.1 in
    let above = most-less ground h.cut.mark context (ground-most h.cut.mark) h.cut.less in
    let at_held = low-grows d.0 e.0 e.1 held.0 ground (low-own d.0 held.0 ground d.3) in
    let at_start = low-own e.0 start.0 ground e.3 in
    let read = choose_gate p.cut start.0 held.0 shape start.1 in
    let f = choose-marked p.cut start.0 held.0 shape start.1 e.0 context e.2 (under-grows ms e.0 g p.cut context h.cut) (low-under e.0 start.0 ground context above at_start) (low-under e.0 held.0 ground context above at_held) in
    let g' = grows-both ms e.0 f.0 g f.1 in
    let k = choose-there p.kept start.0 held.0 shape read.1 f.0 f.2 (there-grows ms f.0 g' p.kept h.kept) (there-grows e.0 f.0 f.1 start.0 (low-there e.0 start.0 ground at_start)) (there-grows e.0 f.0 f.1 held.0 (low-there e.0 held.0 ground at_held)) in
    (k.0, grows-both ms f.0 k.0 g' k.1, k.2, record { reads = low-grows f.0 k.0 k.1 read.0 context f.3; keeps = k.3 })

pub takes-marked : {F : Frame} (r : Register) (p : Place) (w : ℕ) (s : Sketch) (ms : Marks) (context : Mark) → AreMarked F s ms → IsPlaced ms p context → IsRegistered ms r context → There ms w → Step F ms (takes r p w s)
unfolding takes
takes-marked r p w s ms context a h reg t =
    let e = there-marked p s ms context a h in
    let f = choose-there (there p s).0 w r.keeps r.shape (there p s).1 e.0 e.2 e.3 (there-grows ms e.0 e.1 w t) (there-grows ms e.0 e.1 r.keeps reg.keeps) in
    (f.0, grows-both ms e.0 f.0 e.1 f.1, set_next-marked r.slot (choose_gate (there p s).0 w r.keeps r.shape (there p s).1).0 (choose_gate (there p s).0 w r.keeps r.shape (there p s).1).1 f.0 f.2)

-- ---- chains: all holes of one have its mark, and each reads the next

-- the last hole of a chain, which may be open where the chain is of no integers
abbrev pub Rest : Bool → ℕ → ℕ → Type 0
Rest whole h k = (whole ≡ false) × (k ≡ h)

pub chain_add-marked : (F : Frame) (whole : Bool) (h c : ℕ) (v : Value) (s : Sketch) (ms : Marks) (m : Mark) → (is_mark v.shape ≡ false → whole ≡ false) → AreMarked (later F (Rest whole h)) s ms → Has ms h m → Under ms c m → Under ms v.wire m
    → Holed (later F (Rest whole (chain_add h c v s).0)) ms m (chain_add h c v s)
unfolding chain_add
chain_add-marked F whole h c v s ms m part a e l k = by v.shape part
  where
    both_rests : ℕ → ℕ → Type 0
    both_rests r i = (F.late i ⊎ Rest whole h i) ⊎ Rest whole r i

    kept : (r i : ℕ) → both_rests r i → (i ≡ h) ⊎ (F.late i ⊎ Rest whole r i)
    kept r i (inl (inl q)) = inr (inl q)
    kept r i (inl (inr q)) = inl q.1
    kept r i (inr q) = inr (inr q)

    more : (p : Shape) → whole ≡ false → Holed (later F (Rest whole (hole p s).0)) ms m (let rest = hole p s in (rest.0, set h (wire.If c v.wire rest.0) rest.1))
    more p e1 =
        let r = (hole p s).0 in
        let d = hole-marked p s ms m (λ q. inr (e1, refl)) (weaken (both_rests r) s ms (λ i q. inl q) a) in (
          d.0,
          d.1,
          set-may (λ i. F.late i ⊎ Rest whole r i) h (wire.If c v.wire r) (hole p s).1 d.0 m (kept r) d.2 (has-grows ms d.0 d.1 h m e)
              (inl (under-grows ms d.0 d.1 c m l), inl (under-grows ms d.0 d.1 v.wire m k), inr (d.3, hole-behind p s ms h m a e)),
          d.3,
        )

    by : (p : Shape) → (is_mark p ≡ false → whole ≡ false) → Holed (later F (Rest whole (chain_add_as p h c v.wire s).0)) ms m (chain_add_as p h c v.wire s)
    by Whole f = (ms, grows-none ms, read-marked h v.wire (read h c s) ms m (read-marked h c s ms m a e l) e k, e)
    by Truth f = more Truth (f refl)
    by (Cons n) f = more (Cons n) (f refl)

pub chain_end-marked : (F : Frame) (whole : Bool) (h : ℕ) (s : Sketch) (ms : Marks) (m : Mark) → AreMarked (later F (Rest whole h)) s ms → Has ms h m → AreMarked F (chain_end h s) ms
unfolding chain_end
chain_end-marked F whole h s ms m a e = set-said F.late h (wire.Constant 0) s ms m (λ k q. elim q [ inl o ↦ inr o | inr o ↦ inl o.1 ]) a e tt
