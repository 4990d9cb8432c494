-- What the parts of a machine are.
use Rattle.std.proofs.Common.{◌≡◌, ◌≤◌, ◌<◌, ℕ, zero, suc, ◌+◌, ◌-◌, List, [], ◌∷◌, ◌++◌, length, map, take, refl, sym, ap, ap₂, subst, ◌∙◌, arith, append_assoc}
use Rattle.std.specs.Prelude.{Bool, true, false, ◌&&◌, if◌then◌else◌, nat_le, nat_lt, nat_eq, Option, Some, IfOk, Result, Ok, Err, IsTrue}
use Rattle.std.specs.declared.alloc.AllocError.{AllocError}
use Rattle.std.proofs.lemmas.Bool.Decides.{nat_tests}
use Rattle.hp_boolx.specs.declared.gate.Gate.{Gate}
use Rattle.hp_boolx.specs.Search.{Bits}
use Rattle.hp_boolx.specs.Machine.{bit, values}
use Rattle.hp_circuit.specs.declared.circuit.Circuit.{Circuit}
use Rattle.hp_circuit.specs.declared.circuit.Role.{Role}
use Rattle.hp_circuit.specs.declared.circuit.Role.TheVariants as role
use Rattle.hp_circuit.specs.declared.circuit.Shape.{Shape}
use Rattle.hp_circuit.specs.declared.circuit.Shape.TheVariants.{Truth}
use Rattle.hp_circuit.specs.declared.circuit.Slot.{Slot}
use Rattle.hp_circuit.specs.Numbers.{pow2, width, to_bits, number, compared}
use Rattle.hp_circuit.specs.Shapes.{shape_width}
use Rattle.hp_circuit.specs.Forms.{shape_at, slot_at, wire_at, Carries, RoleFits, IsCircuit}
use Rattle.hp_circuit.specs.Meaning.{holds}
use Rattle.hp_circuit.specs.Adding.{at, row, word, HasFirst, Keeps, Adds}
use Rattle.hp_circuit.specs.Making.{start_at, or_zero, place_at, slot_number, wire_number, ArePlaced, Stands}
use Rattle.hp_circuit.specs.Placing.{counted, role_gates, slot_gates, start_number, AreCounts, AreWired}
use Rattle.hp_boolx.specs.Machine.{Machine}
use Rattle.hp_boolx.specs.declared.machine.Counts.{Counts}
use Rattle.hp_circuit.specs.declared.circuit.Wire.{Wire}
use Rattle.hp_circuit.specs.Kinds.{place_of}
use Rattle.hp_circuit.specs.Building.{HasGates}
use Rattle.hp_circuit.specs.Finishing.{IsFinished}
use Rattle.hp_circuit.specs.Wiring.{with_valid}
use Rattle.hp_circuit.proofs.KindLaws.{placed_within}
use Rattle.hp_circuit.specs.Reading.{edges_of, AreSteered}
use Rattle.hp_circuit.specs.Giving.{gate_of, IsGateOf}
use Rattle.hp_circuit.specs.Telling.{IsWiredMachine}
use Rattle.hp_circuit.specs.Machines.{AssumesControl, HasCircle, IsMachineOf, joined, role_next, slot_next, role_valid, all_valid, IsMeant}
use Rattle.hp_circuit.proofs.NumberLaws.{tests, true_le, false_le, length_bits, number_of_bits, width_fits}
use Rattle.hp_circuit.proofs.ComparedLaws.{below_power, below_is}
use Rattle.hp_circuit.proofs.AddingLaws.{keeps_all, keeps_both, fit_none, fit_both, row_kept, row_long}
use Rattle.hp_circuit.proofs.MakingLaws.{reads_of, value_same}
use Rattle.hp_circuit.proofs.ReadingLaws.{fits_reads}

-- ---- numbers and their bits

pub bits_of_number : (bs : Bits) → to_bits (length bs) (number bs) ≡ bs
bits_of_number [] = refl
bits_of_number (true ∷ bs) =
    let p = pow2 (length bs) in
    let x = number bs in
    let t : nat_le p (p + x) ≡ true = true_le p (p + x) (omega arith) in
    ap (λ (b : Bool). b ∷ to_bits (length bs) (if b then (p + x) - p else p + x)) t
    ∙ ap (λ n. true ∷ to_bits (length bs) n) (let e : (p + x) - p ≡ x = omega arith in e)
    ∙ ap (λ (r : Bits). true ∷ r) (bits_of_number bs)
bits_of_number (false ∷ bs) =
    let p = pow2 (length bs) in
    let x = number bs in
    let e : 0 + x ≡ x = omega arith in
    let l = below_power bs in
    let t : nat_le p (0 + x) ≡ false = false_le p (0 + x) (omega (arith, l)) in
    ap (λ (b : Bool). b ∷ to_bits (length bs) (if b then (0 + x) - p else 0 + x)) t
    ∙ ap (λ n. false ∷ to_bits (length bs) n) e
    ∙ ap (λ (r : Bits). false ∷ r) (bits_of_number bs)

row_bits : (bs : Bits) (start width : ℕ) → row bs start width ≡ to_bits width (number (row bs start width))
row_bits bs start width = sym (bits_of_number (row bs start width)) ∙ ap (λ n. to_bits n (number (row bs start width))) (row_long bs width start)

map_counted : (bs : Bits) (width start : ℕ) → map (bit bs) (counted start width) ≡ row bs start width
map_counted bs zero start = refl
map_counted bs (suc width) start = ap (λ (r : Bits). bit bs start ∷ r) (map_counted bs width (suc start))

map_both : {A : Type 0} → (f : A → Bool) (xs ys : List A) → map f (xs ++ ys) ≡ map f xs ++ map f ys
map_both f [] ys = refl
map_both f (x ∷ xs) ys = ap (λ (r : Bits). f x ∷ r) (map_both f xs ys)

pub counted_more : (width start : ℕ) → counted start (width + 1) ≡ counted start width ++ (start + width) ∷ []
counted_more width start = ap (counted start) (let e : width + 1 ≡ suc width = omega arith in e) ∙ last width start
  where
    last : (width start : ℕ) → counted start (suc width) ≡ counted start width ++ (start + width) ∷ []
    last zero start = ap (λ n. n ∷ []) (let e : start ≡ start + 0 = omega arith in e)
    last (suc width) start = ap (λ (r : List ℕ). start ∷ r) (last width (suc start) ∙ ap (λ n. counted (suc start) width ++ n ∷ []) (let e : suc start + width ≡ start + suc width = omega arith in e))

pub counted_next : (old items more : List ℕ) (start i : ℕ) → items ≡ old ++ counted start i → more ≡ items ++ (start + i) ∷ [] → more ≡ old ++ counted start (i + 1)
counted_next old items more start i e f = f ∙ ap (λ (r : List ℕ). r ++ (start + i) ∷ []) e ∙ append_assoc old (counted start i) ((start + i) ∷ []) ∙ ap (λ (r : List ℕ). old ++ r) (sym (counted_more i start))

-- ---- validity

lt_of : (a b : ℕ) → a < b → nat_lt a b ≡ true
lt_of a b l = grind (arith, nat_tests)

eq_of : (a b : ℕ) → IsTrue (nat_eq a b) → a ≡ b
eq_of a b e = grind (arith, nat_tests)

differ : (a b : ℕ) → nat_eq a b ≡ false → a ≤ b → b ≤ a → ⊥
differ a b f l m = let t : nat_eq a b ≡ true = (let e : a ≡ b = omega (arith, l, m) in grind (arith, nat_tests)) in cc

pub full_valid : (gates : List Gate) (start count : ℕ) → HasFirst gates → nat_eq (pow2 (width count)) count ≡ true → Adds 0 gates gates 1 (λ v. nat_lt (number (word gates v start (width count))) count)
full_valid gates start count h e =
    let two : 2 ≤ length gates = h.two in
    let f : pow2 (width count) ≡ count = eq_of (pow2 (width count)) count e in
    record {
      keeps = keeps_all gates;
      there = omega (arith, two);
      fit = fit_none 0 gates;
      value = λ v.
          let l : number (word gates v start (width count)) < pow2 (width count) = subst (λ n. number (word gates v start (width count)) < pow2 n) (row_long (values v [] gates) (width count) start) (below_power (word gates v start (width count))) in
          h.high v ∙ sym (lt_of (number (word gates v start (width count))) count (omega (arith, l, f)));
    }

pub below_of : (old new : List Gate) (start count : ℕ) (bits : Bits) (result : Result ℕ AllocError) → HasFirst old → nat_eq (pow2 (width count)) count ≡ false → bits ≡ to_bits (width count) count
    → IfOk result (λ r. Adds 0 old new r (λ v. compared (at old v 1) (at old v 0) (word old v start (length bits)) bits))
    → IfOk result (λ r. Adds 0 old new r (λ v. nat_lt (number (word old v start (width count))) count))
below_of old new start count bits (Ok r) h ne e a = record {
  keeps = a.keeps;
  there = a.there;
  fit = a.fit;
  value = λ v.
      a.value v
      ∙ ap₂ (λ n (b : Bits). compared (at old v 1) (at old v 0) (word old v start n) b) (ap length e ∙ length_bits (width count) count) e
      ∙ ap₂ (λ (x y : Bool). compared x y (word old v start (width count)) (to_bits (width count) count)) (h.high v) (h.low v)
      ∙ below_is (word old v start (width count)) (to_bits (width count) count) (row_long (values v [] old) (width count) start ∙ sym (length_bits (width count) count))
      ∙ ap (λ n. nat_lt (number (word old v start (width count))) n) (number_of_bits (width count) count few);
}
  where
    few : count < pow2 (width count)
    few = let f = width_fits count in tests (nat_le (pow2 (width count)) count) (λ t. absurd (differ (pow2 (width count)) count ne (let u : pow2 (width count) ≤ count = grind (arith, nat_tests, t) in u) f)) (λ t. grind (arith, nat_tests, t))
below_of old new start count bits (Err x) h ne e a = tt

and_true : (b : Bool) → b && true ≡ b
and_true true = refl
and_true false = refl

and_both : (a b c : Bool) → a && (b && c) ≡ (a && b) && c
and_both true b c = refl
and_both false b c = refl

pub all_more : (f : ℕ → ℕ) (slots : List Slot) (i : ℕ) → i < length slots
    → all_valid f (take (i + 1) slots) ≡ (all_valid f (take i slots) && role_valid (slot_at slots i).role (slot_at slots i).shape (f (slot_at slots i).wire))
all_more f [] i l = absurd (omega (arith, l))
all_more f (s ∷ slots) zero l = and_true (role_valid s.role s.shape (f s.wire))
all_more f (s ∷ slots) (suc i) l =
    ap (λ n. all_valid f (take n (s ∷ slots))) (let e : suc i + 1 ≡ suc (i + 1) = omega arith in e)
    ∙ ap (λ (b : Bool). role_valid s.role s.shape (f s.wire) && b) (all_more f slots i (omega (arith, l)))
    ∙ and_both (role_valid s.role s.shape (f s.wire)) (all_valid f (take i slots)) (role_valid (slot_at slots i).role (slot_at slots i).shape (f (slot_at slots i).wire))

pub valid_more : (old a b c : List Gate) (slots : List Slot) (shapes : List Shape) (starts : List ℕ) (i valid one r start : ℕ) → i < length slots
    → ((w : ℕ) → w < length starts → place_at starts w + shape_width (shape_at shapes w) ≤ length old)
    → (slot_at slots i).wire < length starts → shape_at shapes (slot_at slots i).wire ≡ (slot_at slots i).shape → start ≡ place_at starts (slot_at slots i).wire
    → Adds 0 old a valid (λ v. all_valid (start_number shapes old starts v) (take i slots))
    → Adds 0 a b one (λ v. role_valid (slot_at slots i).role (slot_at slots i).shape (number (word a v start (shape_width (slot_at slots i).shape))))
    → Adds 0 b c r (λ v. at b v valid && at b v one)
    → Adds 0 old c r (λ v. all_valid (start_number shapes old starts v) (take (i + 1) slots))
valid_more old a b c slots shapes starts i valid one r start l there lw es e0 before mid last =
    let slot = slot_at slots i in
    record {
      keeps = keeps_both old b c (keeps_both old a b before.keeps mid.keeps) last.keeps;
      there = last.there;
      fit = fit_both 0 0 0 old b c (omega arith) (omega arith) (fit_both 0 0 0 old a b (omega arith) (omega arith) before.fit mid.fit) last.fit;
      value = λ v.
          last.value v
          ∙ ap₂ (λ (x y : Bool). x && y) (mid.keeps.kept v valid before.there ∙ before.value v) (mid.value v)
          ∙ ap (λ n. all_valid (start_number shapes old starts v) (take i slots) && role_valid slot.role slot.shape n)
          (ap₂ (λ k n. number (word a v k n)) e0 (ap shape_width (sym es))
          ∙ ap number (row_kept old a before.keeps v (shape_width (shape_at shapes slot.wire)) (place_at starts slot.wire) (there slot.wire lw)))
          ∙ sym (all_more (start_number shapes old starts v) slots i l);
    }

-- ---- the meaning

one_held : (b : Bool) → holds (number (b ∷ [])) ≡ b
one_held true = refl
one_held false = refl

module _ (c : Circuit) (places starts : List ℕ) (old new : List Gate) (wired : AreWired c places starts old) (keeps : Keeps old new) (is : IsCircuit c) where
  abbrev numbers : Bits → ℕ → ℕ
  numbers v = start_number c.shapes.items old starts v

  pub truth_at : (v : Bits) (w : ℕ) → Carries c.shapes.items w Truth → at new v (place_at starts w) ≡ holds (numbers v w)
  truth_at v w carried =
      let e = is.shapes in
      let m = wired.many in
      let there : place_at starts w + shape_width (shape_at c.shapes.items w) ≤ length old = wired.there w (omega (arith, carried.0, e, m)) in
      let one : shape_width (shape_at c.shapes.items w) ≡ 1 = ap shape_width carried.1 in
      keeps.kept v (place_at starts w) (omega (arith, there, one))
      ∙ sym (one_held (at old v (place_at starts w)))
      ∙ ap (λ (s : Shape). holds (number (word old v (place_at starts w) (shape_width s)))) (sym carried.1)

  role_bits : (v : Bits) (r : Role) (shape : Shape) → RoleFits c.shapes.items shape r → map (at new v) (role_gates starts r shape) ≡ role_next (numbers v) r shape
  role_bits v (role.Register first next) shape f =
      let e = is.shapes in
      let m = wired.many in
      let there : place_at starts next + shape_width (shape_at c.shapes.items next) ≤ length old = wired.there next (omega (arith, f.1.0, e, m)) in
      let same : shape_width (shape_at c.shapes.items next) ≡ shape_width shape = ap shape_width f.1.1 in
      map_counted (values v [] new) (shape_width shape) (place_at starts next)
      ∙ row_kept old new keeps v (shape_width shape) (place_at starts next) (omega (arith, there, same))
      ∙ row_bits (values v [] old) (place_at starts next) (shape_width shape)
      ∙ ap (λ n. to_bits (shape_width shape) (number (word old v (place_at starts next) n))) (sym same)
  role_bits v role.Input shape f = refl
  role_bits v role.Control shape f = refl
  role_bits v (role.Free early) shape f = refl

  next_bits : (v : Bits) (slots : List Slot) → ((i : ℕ) → i < length slots → RoleFits c.shapes.items (slot_at slots i).shape (slot_at slots i).role) → map (at new v) (joined (slot_gates starts) slots) ≡ joined (slot_next (numbers v)) slots
  next_bits v [] f = refl
  next_bits v (s ∷ slots) f =
      map_both (at new v) (slot_gates starts s) (joined (slot_gates starts) slots)
      ∙ ap₂ (λ (xs ys : Bits). xs ++ ys) (role_bits v s.role s.shape (f zero (omega arith))) (next_bits v slots (λ i l. f (suc i) (omega (arith, l))))

  pub meant_of : (nexts : List ℕ) (valid hyp duty : ℕ) → nexts ≡ joined (slot_gates starts) c.slots.items → hyp ≡ place_at starts c.hyp → duty ≡ place_at starts c.duty
      → ((v : Bits) → at new v valid ≡ all_valid (start_number c.shapes.items old starts v) c.slots.items) → (v : Bits) → IsMeant c places new nexts valid hyp duty v
  meant_of nexts valid hyp duty en eh ed ev v = record {
    numbers = numbers v;
    solves = wired.solves v;
    only = wired.only v;
    next = ap (map (at new v)) en ∙ next_bits v c.slots.items (λ i l. (is.slots i l).role);
    valid = ev v;
    hyp = ap (at new v) eh ∙ truth_at v c.hyp is.hyp;
    duty = ap (at new v) ed ∙ truth_at v c.duty is.duty;
  }

-- ---- all wires have gates

pub wired_of : (c : Circuit) (places starts : List ℕ) (made : List (Option ℕ)) (gates : List Gate) → IsCircuit c → Stands c.slots.items c.wires.items c.shapes.items places gates made
    → length starts ≡ length made → ((w : ℕ) → w < length made → start_at made w ≡ Some (place_at starts w)) → AreWired c places starts gates
wired_of c places starts made gates is stands many each =
    let same : (v : Bits) (w : ℕ) → w < length made → wire_number c.shapes.items gates made v w ≡ start_number c.shapes.items gates starts v w =
    λ v w l. ap (λ (o : Option ℕ). number (word gates v (or_zero o) (shape_width (shape_at c.shapes.items w)))) (each w l) in
    let count : length made ≡ length c.wires.items = stands.many in
    record {
      first = stands.first;
      fit = stands.fit;
      many = many ∙ stands.many;
      there = λ w l. stands.there w (place_at starts w) (each w (omega (arith, l, many)));
      solves = λ v w l.
          let k : w < length made = omega (arith, l, count) in
          let e : length c.shapes.items ≡ length c.wires.items = is.shapes in
          sym (same v w k) ∙ stands.solved v w (place_at starts w) (each w k)
          ∙ value_same (slot_number c.slots.items places v) (wire_number c.shapes.items gates made v) (start_number c.shapes.items gates starts v) (wire_at c.wires.items w)
          (reads_of (λ a. a < length c.shapes.items) (λ a. wire_number c.shapes.items gates made v a ≡ start_number c.shapes.items gates starts v a) (λ a m. same v a (omega (arith, m, e, count))) (wire_at c.wires.items w)
          (fits_reads c.slots.items c.shapes.items (shape_at c.shapes.items w) (wire_at c.wires.items w) (is.wires.fit w (omega (arith, l, e)))));
      only = λ v other solves w l.
          let k : w < length made = omega (arith, l, count) in
          stands.only v other solves w (place_at starts w) (each w k) ∙ same v w k;
    }

-- ---- the machine

module _ (name : List ℕ) (c : Circuit) (is : IsCircuit c) (steered : List Bool) (are_steered : AreSteered c.slots.items (edges_of c.wires.items c.reads.items) steered) (free : AssumesControl c → ⊥) (acyclic : HasCircle c → ⊥) (places : List ℕ) (counts : Counts) (gates : List Gate) (nexts : List ℕ) (valid hyp duty : ℕ) where
  abbrev finished_is : (m : Machine) → IsFinished name c counts gates nexts valid hyp duty m → AreCounts c.slots.items steered counts
      → ((i : ℕ) → i < length c.slots.items → place_at places i ≡ place_of steered c.slots.items i) → ((v : Bits) → IsMeant c places gates nexts valid hyp duty v) → IsMachineOf name c m
  finished_is m f are placed meant = record {
    named = f.named;
    form = is;
    acyclic = acyclic;
    registers = subst (λ n. n ≤ 64) (sym f.registers) are.few_registers;
    early = subst (λ n. n ≤ 64) (sym f.early) are.few_early;
    control = subst (λ n. n ≤ 16) (sym f.control) are.few_control;
    late = subst (λ n. n ≤ 64) (sym f.late) are.few_late;
    steered = steered;
    are_steered = are_steered;
    assume = free;
    many_registers = f.registers ∙ are.registers;
    many_early = f.early ∙ are.early;
    many_control = f.control ∙ are.control;
    many_late = f.late ∙ are.late;
    widths = f.widths;
    prefer = f.prefer;
    init = f.init;
    places = places;
    placed = placed;
    meant = λ v.
        subst (λ (g : List Gate). IsMeant c places g m.next m.valid m.hyp m.duty v) (sym f.gates_are)
        (subst (λ (n : List ℕ). IsMeant c places gates n m.valid m.hyp m.duty v) (sym f.next)
        (subst (λ k. IsMeant c places gates nexts k m.hyp m.duty v) (sym f.valid)
        (subst (λ k. IsMeant c places gates nexts valid k m.duty v) (sym f.hyp)
        (subst (λ k. IsMeant c places gates nexts valid hyp k v) (sym f.duty) (meant v)))));
  }

  pub machine_is : (starts : List ℕ) (result : Result Machine AllocError) → IfOk result (IsFinished name c counts gates nexts valid hyp duty) → AreCounts c.slots.items steered counts
      → ((i : ℕ) → i < length c.slots.items → place_at places i ≡ place_of steered c.slots.items i) → ((v : Bits) → IsMeant c places gates nexts valid hyp duty v)
      → ((w : ℕ) → IsGateOf c places gates w (gate_of c.shapes.items starts w)) → IfOk result (IsWiredMachine name c steered starts)
  machine_is starts (Ok m) f are placed meant tells = record {
    machine = finished_is m f are placed meant;
    are_steered = refl;
    tells = λ w. subst (λ (g : List Gate). IsGateOf c places g w (gate_of c.shapes.items starts w)) (sym f.gates_are) (tells w);
  }
  machine_is starts (Err e) f are placed meant tells = tt

pub has_gates : (name : List ℕ) (c : Circuit) (counts : Counts) (old gates : List Gate) (starts nexts : List ℕ) (valid hyp duty : ℕ) (result : Result Machine AllocError) → IfOk result (IsFinished name c counts gates nexts valid hyp duty)
    → (gates, valid) ≡ with_valid starts (old, 1) c.slots.items → nexts ≡ joined (slot_gates starts) c.slots.items → hyp ≡ place_at starts c.hyp → duty ≡ place_at starts c.duty → IfOk result (HasGates c old starts)
has_gates name c counts old gates starts nexts valid hyp duty (Ok m) f made next at_hyp at_duty = record {
  made = (λ i. (f.gates_are i, f.valid i)) ∙ made;
  next = f.next ∙ next;
  hyp = f.hyp ∙ at_hyp;
  duty = f.duty ∙ at_duty;
}
has_gates name c counts old gates starts nexts valid hyp duty (Err e) f made next at_hyp at_duty = tt

pub placed_all : (steered : List Bool) (slots : List Slot) (wires : List Wire) (shapes : List Shape) (counts : Counts) (places : List ℕ) → AreCounts slots steered counts → length places ≡ length slots
    → ((i : ℕ) → i < length slots → place_at places i ≡ place_of steered slots i) → ArePlaced slots wires shapes places
placed_all steered slots wires shapes counts places are many each =
    (many, λ i l. let p = placed_within steered slots counts are i l in let e = each i l in omega (arith, p, e))
