-- Registers: laid down first, and told last what they take next.
use Rattle.std.proofs.Common.{◌≡◌, ℕ, ◌+◌, Bool, ◌&&◌, if◌then◌else◌, List, [], ◌∷◌, ◌++◌, length, refl, sym, ap, subst, ◌∙◌}
use Rattle.std.specs.List.{list_all}
use Rattle.std.proofs.lemmas.List.{append-nil, append_assoc, length-append}
use Rattle.hp_tree.specs.Instant.{Instant, Clock, holds}
use Rattle.hp_tree.specs.Meaning.{Names}
use Rattle.hp_tree.specs.Programs.{TypeDecl}
use Rattle.hp_meaning.specs.Causal.Points.{Placed}
use Rattle.hp_meaning.specs.Contract.Slots as slots
use Rattle.hp_circuit.specs.declared.circuit.Role.{Role}
use Rattle.hp_circuit.specs.declared.circuit.Role.TheVariants as role
use Rattle.hp_circuit.specs.declared.circuit.Shape.{Shape}
use Rattle.hp_circuit.specs.declared.circuit.Slot.{Slot}
use Rattle.hp_circuit.specs.declared.circuit.Wire.TheVariants as wire
use Rattle.hp_circuit.specs.Meaning.{truth}
use Rattle.hp_drawing.specs.declared.parts.Clock.{Clock as ClockLine}
use Rattle.hp_drawing.specs.declared.parts.Place.{Place}
use Rattle.hp_drawing.specs.declared.parts.Register.{Register}
use Rattle.hp_drawing.specs.Sketch as sketch
use Rattle.hp_drawing.specs.Sketch.{Sketch, low, high, push, choose_gate, slot as slot_step, with_slot, set_next, set_next_at, with_next}
use Rattle.hp_drawing.specs.Places.{there, new_register, takes}
use Rattle.law_drawing.specs.Carrying.Solving.{Has}
use Rattle.law_drawing.specs.Carrying.Drawing.{AreLaid, Takes, IsSolved, IsTold, IsDrawn, IsClock, IsPlace}
use Rattle.law_drawing.proofs.CarryingLemmas.Slots.{laid-more, laid-join}
use Rattle.law_drawing.proofs.CarryingLemmas.Steps.{stays, has-stays, gate, nothing-drawn, and-assoc, all-join}
use Rattle.law_drawing.proofs.CarryingLemmas.Gates.{choose-drawn, there-drawn}

set-behind : (xs ys : List Slot) (u : Slot) (w : ℕ) → set_next_at (xs ++ u ∷ ys) (length xs) w ≡ xs ++ with_next u w ∷ ys
set-behind [] ys u w = refl
set-behind (x ∷ xs) ys u w = ap (λ zs. x ∷ zs) (set-behind xs ys u w)

module _ (slot : ℕ → ℕ) (next : Instant) (supposes owes : Placed → Bool) where
  -- Behind a part whose first slots are still to be told what they take.
  pub record IsPending (s : Sketch) (ns : List ℕ) (open_ones : List Slot) (ss : List slots.Slot) (calls : List Placed) (behind : Sketch) (numbers : List ℕ) : Type 0 where
    pub more : List ℕ
    pub grown : numbers ≡ ns ++ more
    pub solved : IsSolved slot behind numbers
    pub more_clocks : List ClockLine
    pub clocks : behind.clocks ≡ s.clocks ++ more_clocks
    pub more_shapes : List Shape
    pub shapes : behind.shapes ≡ s.shapes ++ more_shapes
    pub laid : List Slot
    pub slots : behind.slots ≡ s.slots ++ (open_ones ++ laid)
    pub are_laid : AreLaid numbers next ss laid
    pub told : (supposed owed : Bool) → IsTold s ns supposed owed → IsTold behind numbers (supposed && list_all supposes calls) (owed && list_all owes calls)

  pub begins : (s : Sketch) (ns : List ℕ) → IsSolved slot s ns → IsPending s ns [] [] [] s ns
  begins s ns g = let d = nothing-drawn slot next supposes owes s ns g in record {
    more = d.more;
    grown = d.grown;
    solved = g;
    more_clocks = d.more_clocks;
    clocks = d.clocks;
    more_shapes = d.more_shapes;
    shapes = d.shapes;
    laid = d.laid;
    slots = d.slots;
    are_laid = d.are_laid;
    told = d.told;
  }

  pub still : (s : Sketch) (ns : List ℕ) (os : List Slot) (ss : List slots.Slot) (cs : List Placed) (s1 : Sketch) (ns1 : List ℕ) → IsPending s ns os ss cs s1 ns1 → (w k : ℕ) → Has ns w k → Has ns1 w k
  still s ns os ss cs s1 ns1 d w k h = has-stays ns ns1 d.more w k d.grown h

  -- what is drawn behind it
  pub follows : (s : Sketch) (ns : List ℕ) (os : List Slot) (ss : List slots.Slot) (cs : List Placed) (s1 : Sketch) (ns1 : List ℕ) (ts : List slots.Slot) (ds : List Placed) (s2 : Sketch) (ns2 : List ℕ)
      → IsPending s ns os ss cs s1 ns1 → IsDrawn slot next supposes owes s1 ns1 ts ds s2 ns2 → IsPending s ns os (ss ++ ts) (cs ++ ds) s2 ns2
  follows s ns os ss cs s1 ns1 ts ds s2 ns2 a b = record {
    more = a.more ++ b.more;
    grown = b.grown ∙ ap (λ l. l ++ b.more) a.grown ∙ append_assoc ns a.more b.more;
    solved = b.solved;
    more_clocks = a.more_clocks ++ b.more_clocks;
    clocks = b.clocks ∙ ap (λ l. l ++ b.more_clocks) a.clocks ∙ append_assoc s.clocks a.more_clocks b.more_clocks;
    more_shapes = a.more_shapes ++ b.more_shapes;
    shapes = b.shapes ∙ ap (λ l. l ++ b.more_shapes) a.shapes ∙ append_assoc s.shapes a.more_shapes b.more_shapes;
    laid = a.laid ++ b.laid;
    slots = b.slots ∙ ap (λ l. l ++ b.laid) a.slots ∙ append_assoc s.slots (os ++ a.laid) b.laid ∙ ap (λ l. s.slots ++ l) (append_assoc os a.laid b.laid);
    are_laid = laid-join ns2 next ss ts a.laid b.laid (subst (λ l. AreLaid l next ss a.laid) (sym b.grown) (laid-more ns1 b.more next ss a.laid a.are_laid)) b.are_laid;
    told = λ supposed owed h.
        let k = b.told (supposed && list_all supposes cs) (owed && list_all owes cs) (a.told supposed owed h) in
        record {
          hyp = subst (λ q. Has ns2 s2.hyp (truth q)) (and-assoc supposed (list_all supposes cs) (list_all supposes ds) ∙ ap (λ q. supposed && q) (sym (all-join supposes cs ds))) k.hyp;
          duty = subst (λ q. Has ns2 s2.duty (truth q)) (and-assoc owed (list_all owes cs) (list_all owes ds) ∙ ap (λ q. owed && q) (sym (all-join owes cs ds))) k.duty;
        };
  }

  pub with-end : (s : Sketch) (ns : List ℕ) (os : List Slot) (ss : List slots.Slot) (cs : List Placed) (s1 : Sketch) (ns1 : List ℕ) (s2 : Sketch) (ns2 : List ℕ)
      → IsPending s ns os ss cs s1 ns1 → IsDrawn slot next supposes owes s1 ns1 [] [] s2 ns2 → IsPending s ns os ss cs s2 ns2
  with-end s ns os ss cs s1 ns1 s2 ns2 a b =
      subst (λ c. IsPending s ns os ss c s2 ns2) (append-nil cs) (subst (λ l. IsPending s ns os l (cs ++ []) s2 ns2) (append-nil ss) (follows s ns os ss cs s1 ns1 [] [] s2 ns2 a b))

  -- Where all of them take what memory holds next, it is drawn.
  pub closed : (s : Sketch) (ns : List ℕ) (os : List Slot) (rs ss : List slots.Slot) (cs : List Placed) (s1 : Sketch) (ns1 : List ℕ) → IsPending s ns os ss cs s1 ns1 → AreLaid ns1 next rs os → IsDrawn slot next supposes owes s ns (rs ++ ss) cs s1 ns1
  closed s ns os rs ss cs s1 ns1 d h = record {
    more = d.more;
    grown = d.grown;
    solved = d.solved;
    more_clocks = d.more_clocks;
    clocks = d.clocks;
    more_shapes = d.more_shapes;
    shapes = d.shapes;
    laid = os ++ d.laid;
    slots = d.slots;
    are_laid = laid-join ns1 next rs ss os d.laid h d.are_laid;
    told = d.told;
  }

  -- the slots so far, where nothing is laid down behind the open ones
  pub open-length : (s : Sketch) (ns : List ℕ) (os : List Slot) (s1 : Sketch) (ns1 : List ℕ) → IsPending s ns os [] [] s1 ns1 → length s1.slots ≡ length s.slots + length os
  open-length s ns os s1 ns1 d = ap length d.slots ∙ length-append s.slots (os ++ d.laid) ∙ ap (λ l. length s.slots + length (os ++ l)) d.are_laid ∙ ap (λ l. length s.slots + length l) (append-nil os)

  -- ---- a register is laid down

  abbrev pub opened : ℕ → Shape → ℕ → Slot
  opened first p w = record { role = role.Register first low; shape = p; wire = w }

  pub slot-opened : (s : Sketch) (ns : List ℕ) (os : List Slot) (s1 : Sketch) (ns1 : List ℕ) (r : Role) (p : Shape) → IsPending s ns os [] [] s1 ns1
      → (ns2 : List ℕ) × (o : Slot) × (o.role ≡ r) × IsPending s ns (os ++ o ∷ []) [] [] (slot_step r p s1).1 ns2 × Has ns2 (slot_step r p s1).0 (slot (length s1.slots)) × ((w k : ℕ) → Has ns1 w k → Has ns2 w k)
  unfolding slot_step push sketch.next_slot
  slot-opened s ns os s1 ns1 r p d =
      let m = gate slot next supposes owes (wire.Slot (length s1.slots)) p s1 ns1 (slot (length s1.slots)) d.solved refl in
      let o : Slot = record { role = r; shape = p; wire = length s1.wires } in
      let a = with-end s ns os [] [] s1 ns1 (push (wire.Slot (length s1.slots)) p s1).1 m.0 d m.1 in (
        m.0,
        o,
        refl,
        record {
          more = a.more;
          grown = a.grown;
          solved = record { solved = a.solved.solved; low_is = a.solved.low_is; high_is = a.solved.high_is; base_is = a.solved.base_is; shaped = a.solved.shaped; hyp_is = a.solved.hyp_is; duty_is = a.solved.duty_is };
          more_clocks = a.more_clocks;
          clocks = a.clocks;
          more_shapes = a.more_shapes;
          shapes = a.shapes;
          laid = [];
          slots = ap (λ l. l ++ o ∷ []) (d.slots ∙ ap (λ l. s.slots ++ (os ++ l)) d.are_laid ∙ ap (λ l. s.slots ++ l) (append-nil os)) ∙ append_assoc s.slots os (o ∷ []) ∙ ap (λ l. s.slots ++ l) (sym (append-nil (os ++ o ∷ [])));
          are_laid = refl;
          told = λ supposed owed h. let k = a.told supposed owed h in record { hyp = k.hyp; duty = k.duty };
        },
        m.2,
        λ w k h. stays slot next supposes owes s1 ns1 [] [] (push (wire.Slot (length s1.slots)) p s1).1 m.0 m.1 w k h,
      )

  -- What is read of a register, and what it keeps: the value of its slot, or its first one.
  pub record IsRegister (ns : List ℕ) (r : Register) (number : ℕ) (cut kept : Bool) (first held : ℕ) : Type 0 where
    pub slot_is : r.slot ≡ number
    pub read_is : Has ns r.read (if cut then first else held)
    pub keeps_is : Has ns r.keeps (if kept then first else held)

  pub register-more : (ns ns' : List ℕ) (r : Register) (number : ℕ) (cut kept : Bool) (first held : ℕ) → ((w k : ℕ) → Has ns w k → Has ns' w k) → IsRegister ns r number cut kept first held → IsRegister ns' r number cut kept first held
  register-more ns ns' r number cut kept first held f h = record { slot_is = h.slot_is; read_is = f r.read (if cut then first else held) h.read_is; keeps_is = f r.keeps (if kept then first else held) h.keeps_is }

  pub place-more : (ns ns' : List ℕ) (place : Place) (here cut kept : Bool) → ((w k : ℕ) → Has ns w k → Has ns' w k) → IsPlace ns place here cut kept → IsPlace ns' place here cut kept
  place-more ns ns' place here cut kept f h = record {
    here_is = f place.here (truth here) h.here_is;
    cut_is = f place.cut (truth cut) h.cut_is;
    kept_is = f place.kept (truth kept) h.kept_is;
    same = h.same;
  }

  pub register-opened : (s : Sketch) (ns : List ℕ) (os : List Slot) (s1 : Sketch) (ns1 : List ℕ) (place : Place) (here cut kept : Bool) (first : ℕ) (p : Shape) → IsPending s ns os [] [] s1 ns1 → IsPlace ns1 place here cut kept
      → (ns2 : List ℕ) × (o : Slot) × ((old : ℕ) × (o.role ≡ role.Register first old)) × IsPending s ns (os ++ o ∷ []) [] [] (new_register place first p s1).1 ns2
      × IsRegister ns2 (new_register place first p s1).0 (length s.slots + length os) cut kept first (slot (length s1.slots)) × ((w k : ℕ) → Has ns1 w k → Has ns2 w k)
  unfolding new_register sketch.next_slot
  register-opened s ns os s1 ns1 place here cut kept first p d h =
      let held = slot_step (role.Register first low) p s1 in
      let a = slot-opened s ns os s1 ns1 (role.Register first low) p d in
      let start = push (wire.Constant first) p held.1 in
      let b = gate slot next supposes owes (wire.Constant first) p held.1 a.0 first a.3.solved refl in
      let more-b : (w k : ℕ) → Has a.0 w k → Has b.0 w k = stays slot next supposes owes held.1 a.0 [] [] start.1 b.0 b.1 in
      let v = slot (length s1.slots) in
      let read = choose_gate place.cut start.0 held.0 p start.1 in
      let c = choose-drawn slot next supposes owes place.cut start.0 held.0 p cut first v start.1 b.0 b.1.solved (more-b place.cut (truth cut) (a.5 place.cut (truth cut) h.cut_is)) b.2 (more-b held.0 v a.4) in
      let more-c : (w k : ℕ) → Has b.0 w k → Has c.0 w k = stays slot next supposes owes start.1 b.0 [] [] read.1 c.0 c.1 in
      let keeps = choose_gate place.kept start.0 held.0 p read.1 in
      let e = choose-drawn slot next supposes owes place.kept start.0 held.0 p kept first v read.1 c.0 c.1.solved (more-c place.kept (truth kept) (more-b place.kept (truth kept) (a.5 place.kept (truth kept) h.kept_is))) (more-c start.0 first b.2) (more-c held.0 v (more-b held.0 v a.4)) in
      let more-e : (w k : ℕ) → Has c.0 w k → Has e.0 w k = stays slot next supposes owes read.1 c.0 [] [] keeps.1 e.0 e.1 in
      let d1 = with-end s ns (os ++ a.1 ∷ []) [] [] held.1 a.0 start.1 b.0 a.3 b.1 in
      let d2 = with-end s ns (os ++ a.1 ∷ []) [] [] start.1 b.0 read.1 c.0 d1 c.1 in
      let d3 = with-end s ns (os ++ a.1 ∷ []) [] [] read.1 c.0 keeps.1 e.0 d2 e.1 in (
        e.0,
        a.1,
        (low, a.2),
        d3,
        record { slot_is = open-length s ns os s1 ns1 d; read_is = more-e read.0 (if cut then first else v) c.2; keeps_is = e.2 },
        λ w k g. more-e w k (more-c w k (more-b w k (a.5 w k g))),
      )

  -- ---- and told what it takes

  with-next-takes : (ns : List ℕ) (o : Slot) (first old w k : ℕ) → o.role ≡ role.Register first old → Has ns w k → Takes ns k (with_next o w).role
  with-next-takes ns o first old w k e h = subst (λ r. Takes ns k (sketch.next_as r w)) (sym e) h

  next-set : (s : Sketch) (ns : List ℕ) (before : List Slot) (o : Slot) (after : List Slot) (ss : List slots.Slot) (cs : List Placed) (s1 : Sketch) (ns1 : List ℕ) (number w : ℕ)
      → IsPending s ns (before ++ o ∷ after) ss cs s1 ns1 → number ≡ length s.slots + length before → IsPending s ns (before ++ with_next o w ∷ after) ss cs (set_next number w s1) ns1
  unfolding set_next
  next-set s ns before o after ss cs s1 ns1 number w d e = record {
    more = d.more;
    grown = d.grown;
    solved = record { solved = d.solved.solved; low_is = d.solved.low_is; high_is = d.solved.high_is; base_is = d.solved.base_is; shaped = d.solved.shaped; hyp_is = d.solved.hyp_is; duty_is = d.solved.duty_is };
    more_clocks = d.more_clocks;
    clocks = d.clocks;
    more_shapes = d.more_shapes;
    shapes = d.shapes;
    laid = d.laid;
    slots =
        ap (λ l. set_next_at l number w) (d.slots ∙ ap (λ l. s.slots ++ l) (append_assoc before (o ∷ after) d.laid) ∙ sym (append_assoc s.slots before (o ∷ (after ++ d.laid))))
        ∙ ap (λ n. set_next_at ((s.slots ++ before) ++ o ∷ (after ++ d.laid)) n w) (e ∙ sym (length-append s.slots before))
        ∙ set-behind (s.slots ++ before) (after ++ d.laid) o w
        ∙ append_assoc s.slots before (with_next o w ∷ (after ++ d.laid))
        ∙ ap (λ l. s.slots ++ l) (sym (append_assoc before (with_next o w ∷ after) d.laid));
    are_laid = d.are_laid;
    told = λ supposed owed h. let k = d.told supposed owed h in record { hyp = k.hyp; duty = k.duty };
  }

  pub register-takes : (types : List TypeDecl) (names : Names) (s : Sketch) (ns : List ℕ) (before : List Slot) (o : Slot) (after : List Slot) (ss : List slots.Slot) (cs : List Placed) (s1 : Sketch) (ns1 : List ℕ)
      (place : Place) (here cut kept : Bool) (clock : Clock) (r : Register) (first held old w i : ℕ)
      → IsPending s ns (before ++ o ∷ after) ss cs s1 ns1 → IsPlace ns1 place here cut kept → IsClock types names s1.clocks ns1 place.clock clock → IsRegister ns1 r (length s.slots + length before) cut kept first held → o.role ≡ role.Register first old → Has ns1 w i
      → (ns2 : List ℕ) × (o' : Slot) × IsPending s ns (before ++ o' ∷ after) ss cs (takes r place w s1) ns2
      × Takes ns2 (if here && holds types clock names then i else (if kept then first else held)) o'.role × ((w k : ℕ) → Has ns1 w k → Has ns2 w k)
  unfolding takes
  register-takes types names s ns before o after ss cs s1 ns1 place here cut kept clock r first held old w i d p c q e h =
      let t = there place s1 in
      let a = there-drawn slot next supposes owes types names place here cut kept clock s1 ns1 d.solved p c in
      let more-a : (w k : ℕ) → Has ns1 w k → Has a.0 w k = stays slot next supposes owes s1 ns1 [] [] t.1 a.0 a.1 in
      let j = (if kept then first else held) in
      let n = choose_gate t.0 w r.keeps r.shape t.1 in
      let b = choose-drawn slot next supposes owes t.0 w r.keeps r.shape (here && holds types clock names) i j t.1 a.0 a.1.solved a.2 (more-a w i h) (more-a r.keeps j q.keeps_is) in
      let more-b : (w k : ℕ) → Has a.0 w k → Has b.0 w k = stays slot next supposes owes t.1 a.0 [] [] n.1 b.0 b.1 in
      let d1 = with-end s ns (before ++ o ∷ after) ss cs s1 ns1 t.1 a.0 d a.1 in
      let d2 = with-end s ns (before ++ o ∷ after) ss cs t.1 a.0 n.1 b.0 d1 b.1 in (
        b.0,
        with_next o n.0,
        next-set s ns before o after ss cs n.1 b.0 r.slot n.0 d2 q.slot_is,
        with-next-takes b.0 o first old n.0 (if here && holds types clock names then i else j) e b.2,
        λ w k g. more-b w k (more-a w k g),
      )
