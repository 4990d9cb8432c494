-- Slots, clocks, registers, chains and jumps, with marks.
use Rattle.std.proofs.Common.{◌≡◌, ℕ, zero, suc, ◌+◌, false, List, [], ◌∷◌, ◌++◌, length, refl, subst, ◌∙◌, inl, inr, arith}
use Rattle.std.specs.Prelude.{⊤}
use Rattle.std.specs.List.{slice_get}
use Rattle.hp_meaning.specs.Causal.Sources.{Sources, none, both}
use Rattle.hp_circuit.specs.declared.circuit.Role.{Role}
use Rattle.hp_circuit.specs.declared.circuit.Role.TheVariants as role
use Rattle.hp_circuit.specs.declared.circuit.Shape.{Shape}
use Rattle.hp_circuit.specs.declared.circuit.Shape.TheVariants.{Truth, Cons, Mark}
use Rattle.hp_circuit.specs.declared.circuit.Slot.{Slot}
use Rattle.hp_circuit.specs.declared.circuit.Wire.TheVariants as wire
use Rattle.hp_drawing.specs.declared.parts.Clock.{Clock}
use Rattle.hp_drawing.specs.declared.parts.Place.{Place}
use Rattle.hp_drawing.specs.declared.parts.Register.{Register}
use Rattle.hp_drawing.specs.declared.parts.Value.{Value}
use Rattle.hp_drawing.specs.Kept.{is_mark}
use Rattle.hp_drawing.specs.Sketch.{Sketch, low, high, push, set, read, hole, and_gate, or_gate, choose_gate, next_slot, slot, given, with_slot, set_next, set_next_at, next_as, add_clock, inner_clock, holds, holds_by}
use Rattle.hp_drawing.specs.Places.{there, within, reset_by, called_at, on_clock, new_register, takes, chain_add, chain_add_as, chain_end}
use Rattle.law_drawing.specs.Steered.Marks.{Steering, Marks, Grows, Each, Has, Leads, Low, IsRoleMarked, IsSlotMarked, AreSlotsMarked, There, IsClockMarked, AreMarked, IsPlaced}
use Rattle.law_drawing.proofs.SteeredLemmas.Steps.{all-next, grows-none, grows-both, has-grows, low-grows, there-grows, low-up, low-there, low-own, there-low, Step, Made, Holed, gate, set-marked, read-marked, mark-marked, hole-marked, and-marked, or-marked, choose-marked}

module _ (steers : Steering) where
  -- ---- slots

  -- a role of a slot of this number, whose wire has a mark: no controllable variable
  abbrev pub IsFreely : Sources → ℕ → Role → Type 0
  IsFreely m i (role.Register first next) = ⊤
  IsFreely m i role.Input = ⊤
  IsFreely m i role.Control = ⊥
  IsFreely m i (role.Free early) = Leads steers m → Leads steers (steers.slots i)

  freely : (ms : Marks) (w i : ℕ) (m : Sources) (r : Role) → Has ms w m → IsFreely m i r → IsRoleMarked steers ms w i r
  freely ms w i m (role.Register first next) e h = tt
  freely ms w i m role.Input e h = tt
  freely ms w i m role.Control e h = absurd h
  freely ms w i m (role.Free early) e h = record { mark = m; has = e; leads = h }

  slots-next : (ms : Marks) (i n : ℕ) (cs : List Slot) (x : Slot) → n ≡ i + length cs → AreSlotsMarked steers ms i cs → IsSlotMarked steers ms n x → AreSlotsMarked steers ms i (cs ++ x ∷ [])
  slots-next ms i n [] x e h k = (subst (λ j. IsSlotMarked steers ms j x) (e ∙ (let z : i + 0 ≡ i = omega arith in z)) k, tt)
  slots-next ms i n (c ∷ cs) x e h k = (h.0, slots-next ms (suc i) n cs x (e ∙ (let z : i + suc (length cs) ≡ suc i + length cs = omega arith in z)) h.1 k)

  with_slot-marked : (x : Slot) (s : Sketch) (ms : Marks) → AreMarked steers s ms → IsSlotMarked steers ms (length s.slots) x → AreMarked steers (with_slot x s) ms
  with_slot-marked x s ms a h = record {
    wires = a.wires;
    reads = a.reads;
    slots = slots-next ms 0 (length s.slots) s.slots x (let z : length s.slots ≡ 0 + length s.slots = omega arith in z) a.slots h;
    clocks = a.clocks;
    low_is = a.low_is;
    high_is = a.high_is;
    hyp_is = a.hyp_is;
    duty_is = a.duty_is;
  }

  pub slot-marked : (r : Role) (p : Shape) (s : Sketch) (ms : Marks) (m : Sources) → AreMarked steers s ms → IsFreely m (next_slot s) r → Holed steers ms m (slot r p s)
  unfolding slot next_slot push
  slot-marked r p s ms m a free =
      let d = gate steers (wire.Slot (length s.slots)) p s ms m a tt in
      let w = (push (wire.Slot (length s.slots)) p s).0 in
      (d.0, d.1, with_slot-marked (record { role = r; shape = p; wire = w }) (push (wire.Slot (length s.slots)) p s).1 d.0 d.2 (freely d.0 w (length s.slots) m r d.3 free), d.3)

  -- a controllable variable has a mark that leads
  pub control-marked : (p : Shape) (s : Sketch) (ms : Marks) (m : Sources) → AreMarked steers s ms → Leads steers m → Holed steers ms m (slot role.Control p s)
  unfolding slot next_slot push
  control-marked p s ms m a h =
      let d = gate steers (wire.Slot (length s.slots)) p s ms m a tt in
      let w = (push (wire.Slot (length s.slots)) p s).0 in
      (d.0, d.1, with_slot-marked (record { role = role.Control; shape = p; wire = w }) (push (wire.Slot (length s.slots)) p s).1 d.0 d.2 (record { mark = m; has = d.3; leads = h }), d.3)

  pub given-marked : (r : Role) (p : Shape) (s : Sketch) (ms : Marks) (m : Sources) → AreMarked steers s ms → (is_mark p ≡ false → IsFreely m (next_slot s) r) → Holed steers ms m (given r p s)
  unfolding given
  given-marked r Mark s ms m a free = mark-marked steers s ms m a
  given-marked r Truth s ms m a free = slot-marked r Truth s ms m a (free refl)
  given-marked r (Cons n) s ms m a free = slot-marked r (Cons n) s ms m a (free refl)

  pub given-control-marked : (p : Shape) (s : Sketch) (ms : Marks) (m : Sources) → AreMarked steers s ms → Leads steers m → Holed steers ms m (given role.Control p s)
  unfolding given
  given-control-marked Mark s ms m a h = mark-marked steers s ms m a
  given-control-marked Truth s ms m a h = control-marked Truth s ms m a h
  given-control-marked (Cons n) s ms m a h = control-marked (Cons n) s ms m a h

  next-role : (ms : Marks) (w i next : ℕ) (r : Role) → IsRoleMarked steers ms w i r → IsRoleMarked steers ms w i (next_as r next)
  next-role ms w i next (role.Register first old) h = tt
  next-role ms w i next role.Input h = h
  next-role ms w i next role.Control h = h
  next-role ms w i next (role.Free early) h = h

  next-slots : (ms : Marks) (i : ℕ) (slots : List Slot) (number next : ℕ) → AreSlotsMarked steers ms i slots → AreSlotsMarked steers ms i (set_next_at slots number next)
  next-slots ms i [] number next h = tt
  next-slots ms i (x ∷ slots) zero next h = (next-role ms x.wire i next x.role h.0, h.1)
  next-slots ms i (x ∷ slots) (suc n) next h = (h.0, next-slots ms (suc i) slots n next h.1)

  pub set_next-marked : (number next : ℕ) (s : Sketch) (ms : Marks) → AreMarked steers s ms → AreMarked steers (set_next number next s) ms
  unfolding set_next
  set_next-marked number next s ms a = record {
    wires = a.wires;
    reads = a.reads;
    slots = next-slots ms 0 s.slots number next a.slots;
    clocks = a.clocks;
    low_is = a.low_is;
    high_is = a.high_is;
    hyp_is = a.hyp_is;
    duty_is = a.duty_is;
  }

  -- ---- clocks

  clock_there : (ms : Marks) (clocks : List Clock) (k : ℕ) → There steers ms high → Each (IsClockMarked steers ms) clocks → There steers ms (holds_by (slice_get clocks k))
  clock_there ms [] k t h = t
  clock_there ms (c ∷ clocks) zero t h = h.0
  clock_there ms (c ∷ clocks) (suc k) t h = clock_there ms clocks k t h.1

  pub holds-there : (clock : ℕ) (s : Sketch) (ms : Marks) → AreMarked steers s ms → There steers ms (holds clock s)
  unfolding holds
  holds-there clock s ms a = clock_there ms s.clocks clock (low-there steers ms high none a.high_is) a.clocks

  pub add_clock-marked : (h outer : ℕ) (s : Sketch) (ms : Marks) → AreMarked steers s ms → There steers ms h → AreMarked steers (add_clock h outer s).1 ms
  unfolding add_clock
  add_clock-marked h outer s ms a t = record {
    wires = a.wires;
    reads = a.reads;
    slots = a.slots;
    clocks = all-next (IsClockMarked steers ms) s.clocks (record { holds = h; outer = outer }) a.clocks t;
    low_is = a.low_is;
    high_is = a.high_is;
    hyp_is = a.hyp_is;
    duty_is = a.duty_is;
  }

  -- a wire of two that may read anything
  and-there : (x y : ℕ) (s : Sketch) (ms : Marks) → AreMarked steers s ms → (t : There steers ms x) (u : There steers ms y) → Made steers ms (both t.mark u.mark) (and_gate x y s)
  and-there x y s ms a t u =
      and-marked steers x y s ms (both t.mark u.mark) a (low-up steers ms x t.mark (both t.mark u.mark) (λ h. inl h) (there-low steers ms x t)) (low-up steers ms y u.mark (both t.mark u.mark) (λ h. inr h) (there-low steers ms y u))

  pub inner_clock-marked : (clock step : ℕ) (s : Sketch) (ms : Marks) → AreMarked steers s ms → There steers ms step → Step steers ms (inner_clock clock step s).1
  unfolding inner_clock
  inner_clock-marked clock step s ms a t =
      let h = holds-there clock s ms a in
      let d = and-there (holds clock s) step s ms a h t in
      (d.0, d.1, add_clock-marked (and_gate (holds clock s) step s).0 clock (and_gate (holds clock s) step s).1 d.0 d.2 (low-there steers d.0 (and_gate (holds clock s) step s).0 (both h.mark t.mark) d.3))

  -- ---- places

  pub placed-grows : (ms ms' : Marks) → Grows ms ms' → (p : Place) (context : Sources) → IsPlaced steers ms p context → IsPlaced steers ms' p context
  placed-grows ms ms' g p context h = record { cut = low-grows steers ms ms' g p.cut context h.cut; here = there-grows steers ms ms' g p.here h.here; kept = there-grows steers ms ms' g p.kept h.kept }

  pub placed-clock : (ms : Marks) (p : Place) (clock : ℕ) (context : Sources) → IsPlaced steers ms p context → IsPlaced steers ms (on_clock p clock) context
  placed-clock ms p clock context h = record { cut = h.cut; here = h.here; kept = h.kept }

  -- whether it is there may read anything
  pub there-marked : (p : Place) (s : Sketch) (ms : Marks) (context : Sources) → AreMarked steers s ms → IsPlaced steers ms p context → (m : Sources) × Made steers ms m (there p s)
  unfolding there
  there-marked p s ms context a h =
      let t = holds-there p.clock s ms a in
      (both h.here.mark t.mark, and-there p.here (holds p.clock s) s ms a h.here t)

  pub within-marked : (p : Place) (c : ℕ) (s : Sketch) (ms : Marks) (context : Sources) → AreMarked steers s ms → IsPlaced steers ms p context → There steers ms c
      → (ms' : Marks) × Grows ms ms' × AreMarked steers (within p c s).1 ms' × IsPlaced steers ms' (within p c s).0 context
  unfolding within
  within-marked p c s ms context a h t =
      let d = and-there p.here c s ms a h.here t in
      (d.0, d.1, d.2, record { cut = low-grows steers ms d.0 d.1 p.cut context h.cut; here = low-there steers d.0 (and_gate p.here c s).0 (both h.here.mark t.mark) d.3; kept = there-grows steers ms d.0 d.1 p.kept h.kept })

  -- the body of a `reset` is cut by its condition besides
  pub reset-marked : (p : Place) (c : ℕ) (s : Sketch) (ms : Marks) (context condition : Sources) → AreMarked steers s ms → IsPlaced steers ms p context → Low steers ms c condition
      → (ms' : Marks) × Grows ms ms' × AreMarked steers (reset_by p c s).1 ms' × IsPlaced steers ms' (reset_by p c s).0 (both context condition)
  unfolding reset_by
  reset-marked p c s ms context condition a h l =
      let m = both context condition in
      let cut = or_gate p.cut c s in
      let d = or-marked steers p.cut c s ms m a (low-up steers ms p.cut context m (λ k. inl k) h.cut) (low-up steers ms c condition m (λ k. inr k) l) in
      let here = there-grows steers ms d.0 d.1 p.here h.here in
      let kept = there-grows steers ms d.0 d.1 p.kept h.kept in
      let n = both (both here.mark m) kept.mark in
      let e = choose-marked steers p.here cut.0 p.kept Truth cut.1 d.0 n d.2 (low-up steers d.0 p.here here.mark n (λ k. inl (inl k)) (there-low steers d.0 p.here here)) (low-up steers d.0 cut.0 m n (λ k. inl (inr k)) d.3)
      (low-up steers d.0 p.kept kept.mark n (λ k. inr k) (there-low steers d.0 p.kept kept)) in (
        e.0,
        grows-both ms d.0 e.0 d.1 e.1,
        e.2,
        record { cut = low-grows steers d.0 e.0 e.1 cut.0 m d.3; here = there-grows steers d.0 e.0 e.1 p.here here; kept = low-there steers e.0 (choose_gate p.here cut.0 p.kept Truth cut.1).0 n e.3 },
      )

  pub called-marked : (p : Place) (s : Sketch) (ms : Marks) (context : Sources) → AreMarked steers s ms → IsPlaced steers ms p context
      → (ms' : Marks) × Grows ms ms' × AreMarked steers (called_at p s).1 ms' × IsPlaced steers ms' (called_at p s).0 context
  unfolding called_at
  called-marked p s ms context a h =
      let d = there-marked p s ms context a h in
      let e = d.1 in
      (e.0, e.1, e.2, record { cut = low-grows steers ms e.0 e.1 p.cut context h.cut; here = low-there steers e.0 (there p s).0 d.0 e.3; kept = there-grows steers ms e.0 e.1 p.kept h.kept })

  -- ---- registers

  -- a register: what is read of it reads what cuts its place; its slot and what it keeps are there
  pub record IsRegistered (ms : Marks) (r : Register) (context : Sources) : Type 0 where
    pub reads : Low steers ms r.read context
    pub keeps : There steers ms r.keeps

  pub registered-grows : (ms ms' : Marks) → Grows ms ms' → (r : Register) (context : Sources) → IsRegistered ms r context → IsRegistered ms' r context
  registered-grows ms ms' g r context h = record { reads = low-grows steers ms ms' g r.read context h.reads; keeps = there-grows steers ms ms' g r.keeps h.keeps }

  pub new_register-marked : (p : Place) (first : ℕ) (shape : Shape) (s : Sketch) (ms : Marks) (context : Sources) → AreMarked steers s ms → IsPlaced steers ms p context
      → (ms' : Marks) × Grows ms ms' × AreMarked steers (new_register p first shape s).1 ms' × IsRegistered ms' (new_register p first shape s).0 context
  unfolding new_register
  new_register-marked p first shape s ms context a h =
      let held = slot (role.Register first low) shape s in
      let d = slot-marked (role.Register first low) shape s ms none a tt in
      let start = push (wire.Constant first) shape held.1 in
      let e = gate steers (wire.Constant first) shape held.1 d.0 none d.2 tt in
      let g = grows-both ms d.0 e.0 d.1 e.1 in
      let nothing : (ms'' : Marks) (w : ℕ) (m : Sources) → Low steers ms'' w none → Low steers ms'' w m = λ ms'' w m l. low-up steers ms'' w none m (λ k. absurd k) l in
      let at_held = low-grows steers d.0 e.0 e.1 held.0 none (low-own steers d.0 held.0 none d.3) in
      let at_start = low-own steers e.0 start.0 none e.3 in
      let read = choose_gate p.cut start.0 held.0 shape start.1 in
      let f = choose-marked steers p.cut start.0 held.0 shape start.1 e.0 context e.2 (low-grows steers ms e.0 g p.cut context h.cut) (nothing e.0 start.0 context at_start) (nothing e.0 held.0 context at_held) in
      let g' = grows-both ms e.0 f.0 g f.1 in
      let kept = there-grows steers ms f.0 g' p.kept h.kept in
      let k = choose-marked steers p.kept start.0 held.0 shape read.1 f.0 kept.mark f.2 (there-low steers f.0 p.kept kept) (nothing f.0 start.0 kept.mark (low-grows steers e.0 f.0 f.1 start.0 none at_start))
      (nothing f.0 held.0 kept.mark (low-grows steers e.0 f.0 f.1 held.0 none at_held)) in (
        k.0,
        grows-both ms f.0 k.0 g' k.1,
        k.2,
        record { reads = low-grows steers f.0 k.0 k.1 read.0 context f.3; keeps = low-there steers k.0 (choose_gate p.kept start.0 held.0 shape read.1).0 kept.mark k.3 },
      )

  pub takes-marked : (r : Register) (p : Place) (w : ℕ) (s : Sketch) (ms : Marks) (context : Sources) → AreMarked steers s ms → IsPlaced steers ms p context → IsRegistered ms r context → There steers ms w → Step steers ms (takes r p w s)
  unfolding takes
  takes-marked r p w s ms context a h reg t =
      let d = there-marked p s ms context a h in
      let e = d.1 in
      let w' = there-grows steers ms e.0 e.1 w t in
      let k' = there-grows steers ms e.0 e.1 r.keeps reg.keeps in
      let n = both (both d.0 w'.mark) k'.mark in
      let f = choose-marked steers (there p s).0 w r.keeps r.shape (there p s).1 e.0 n e.2 (low-up steers e.0 (there p s).0 d.0 n (λ k. inl (inl k)) e.3) (low-up steers e.0 w w'.mark n (λ k. inl (inr k)) (there-low steers e.0 w w'))
      (low-up steers e.0 r.keeps k'.mark n (λ k. inr k) (there-low steers e.0 r.keeps k')) in
      (f.0, grows-both ms e.0 f.0 e.1 f.1, set_next-marked r.slot (choose_gate (there p s).0 w r.keeps r.shape (there p s).1).0 (choose_gate (there p s).0 w r.keeps r.shape (there p s).1).1 f.0 f.2)

  -- ---- chains: all holes of one have its mark

  pub chain_add-marked : (h c : ℕ) (v : Value) (s : Sketch) (ms : Marks) (m : Sources) → AreMarked steers s ms → Has ms h m → Low steers ms c m → Low steers ms v.wire m → Holed steers ms m (chain_add h c v s)
  unfolding chain_add
  chain_add-marked h c v s ms m a e l k = by v.shape
    where
      more : (p : Shape) → Holed steers ms m (let rest = hole p s in (rest.0, set h (wire.If c v.wire rest.0) rest.1))
      more p =
          let d = hole-marked steers p s ms m a in (
            d.0,
            d.1,
            set-marked steers h (wire.If c v.wire (hole p s).0) (hole p s).1 d.0 m d.2 (has-grows ms d.0 d.1 h m e)
                (low-grows steers ms d.0 d.1 c m l, low-grows steers ms d.0 d.1 v.wire m k, low-own steers d.0 (hole p s).0 m d.3),
            d.3,
          )

      by : (p : Shape) → Holed steers ms m (chain_add_as p h c v.wire s)
      by Mark = (ms, grows-none ms, read-marked steers h v.wire (read h c s) ms m (read-marked steers h c s ms m a e l) e k, e)
      by Truth = more Truth
      by (Cons n) = more (Cons n)

  pub chain_end-marked : (h : ℕ) (s : Sketch) (ms : Marks) (m : Sources) → AreMarked steers s ms → Has ms h m → AreMarked steers (chain_end h s) ms
  unfolding chain_end
  chain_end-marked h s ms m a e = set-marked steers h (wire.Constant 0) s ms m a e tt
