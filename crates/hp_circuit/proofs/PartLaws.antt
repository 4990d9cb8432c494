-- The parts of the machine of a circuit are those of a machine.
use Rattle.std.proofs.Common.{◌≡◌, ◌≤◌, ◌<◌, ℕ, zero, suc, ◌+◌, List, [], ◌∷◌, ◌++◌, length, sum, refl, sym, ap, ap₂, subst, ◌∙◌, arith, length-append}
use Rattle.std.specs.Prelude.{Bool, true, false, All, slice_index_or}
use Rattle.std.proofs.lemmas.List.{length-replicate}
use Rattle.std.proofs.lemmas.List.Sums.{sum_by-append}
use Rattle.std.proofs.lemmas.List.Elements.{All-append, All-nil, All-cons}
use Rattle.hp_boolx.specs.declared.gate.Gate.{Gate}
use Rattle.hp_boolx.specs.declared.machine.Counts.{Counts}
use Rattle.hp_boolx.specs.Search.{Bits}
use Rattle.hp_circuit.specs.declared.circuit.Circuit.{Circuit}
use Rattle.hp_circuit.specs.declared.circuit.Role.{Role}
use Rattle.hp_circuit.specs.declared.circuit.Role.TheVariants as role
use Rattle.hp_circuit.specs.declared.circuit.Shape.{Shape}
use Rattle.hp_circuit.specs.declared.circuit.Shape.TheVariants.{Truth}
use Rattle.hp_circuit.specs.declared.circuit.Slot.{Slot}
use Rattle.hp_circuit.specs.declared.kind.Kind.{Kind}
use Rattle.hp_circuit.specs.declared.kind.Kind.TheVariants.{Registers, Early, Control, Late}
use Rattle.hp_circuit.specs.Shapes.{shape_width}
use Rattle.hp_circuit.specs.Forms.{shape_at, slot_at, Carries, RoleFits, IsCircuit}
use Rattle.hp_circuit.specs.Adding.{Adds}
use Rattle.hp_circuit.specs.Making.{place_at, AreBelow}
use Rattle.hp_circuit.specs.Kinds.{role_kind, kind_of, own, bits_of, first_of, place_of}
use Rattle.hp_circuit.specs.Placing.{counted, role_gates, slot_gates, AreCounts, AreWired}
use Rattle.hp_circuit.specs.Machines.{joined, is_truth, role_init, role_prefer, role_widths, slot_init, slot_prefer, slot_widths}
use Rattle.hp_circuit.specs.Finishing.{AreParts}
use Rattle.hp_circuit.proofs.NumberLaws.{length_bits}
use Rattle.hp_circuit.proofs.KindLaws.{bits_more, bits_within}

-- ---- lengths

init_role : (r : Role) (shape : Shape) (steered : Bool) → length (role_init r shape) ≡ own Registers (role_kind r steered) (shape_width shape)
init_role (role.Register first next) shape steered = length_bits (shape_width shape) first
init_role role.Input shape steered = refl
init_role role.Control shape steered = refl
init_role (role.Free false) shape steered = refl
init_role (role.Free true) shape false = refl
init_role (role.Free true) shape true = refl

prefer_role : (r : Role) (shape : Shape) (steered : Bool) → length (role_prefer r shape) ≡ own Control (role_kind r steered) (shape_width shape)
prefer_role (role.Register first next) shape steered = refl
prefer_role role.Input shape steered = refl
prefer_role role.Control shape steered = length-replicate (shape_width shape) (is_truth shape)
prefer_role (role.Free false) shape steered = refl
prefer_role (role.Free true) shape false = refl
prefer_role (role.Free true) shape true = refl

widths_role : (r : Role) (shape : Shape) (steered : Bool) → sum (role_widths r shape) ≡ own Control (role_kind r steered) (shape_width shape)
widths_role (role.Register first next) shape steered = refl
widths_role role.Input shape steered = refl
widths_role role.Control shape steered = omega arith
widths_role (role.Free false) shape steered = refl
widths_role (role.Free true) shape false = refl
widths_role (role.Free true) shape true = refl

long_counted : (width start : ℕ) → length (counted start width) ≡ width
long_counted zero start = refl
long_counted (suc width) start = ap suc (long_counted width (suc start))

next_role : (starts : List ℕ) (r : Role) (shape : Shape) (steered : Bool) → length (role_gates starts r shape) ≡ own Registers (role_kind r steered) (shape_width shape)
next_role starts (role.Register first next) shape steered = long_counted (shape_width shape) (place_at starts next)
next_role starts role.Input shape steered = refl
next_role starts role.Control shape steered = refl
next_role starts (role.Free false) shape steered = refl
next_role starts (role.Free true) shape false = refl
next_role starts (role.Free true) shape true = refl

-- what slots give has as many elements as their bits of a kind
joined_long : {A : Type 0} (f : Slot → List A) (steered : List Bool) (kind : Kind) → ((s : Slot) → length (f s) ≡ own kind (kind_of steered s) (shape_width s.shape)) → (slots : List Slot) → length (joined f slots) ≡ bits_of steered kind slots
joined_long f steered kind one [] = refl
joined_long f steered kind one (s ∷ slots) =
    let a : length (f s ++ joined f slots) ≡ length (f s) + length (joined f slots) = length-append (f s) (joined f slots) in
    a ∙ ap₂ (λ m n. m + n) (one s) (joined_long f steered kind one slots)

widths_sum : (steered : List Bool) (slots : List Slot) → sum (joined slot_widths slots) ≡ bits_of steered Control slots
widths_sum steered [] = refl
widths_sum steered (s ∷ slots) =
    sum_by-append (λ n. n) (slot_widths s) (joined slot_widths slots)
    ∙ ap₂ (λ m n. m + n) (widths_role s.role s.shape (slice_index_or steered s.wire false)) (widths_sum steered slots)

-- ---- the next gates

counted_below : (count width start : ℕ) → start + width ≤ count → All (λ k. k < count) (counted start width)
counted_below count zero start l = All-nil (λ k. k < count)
counted_below count (suc width) start l = All-cons (λ k. k < count) start (counted (suc start) width) (omega (arith, l)) (counted_below count width (suc start) (omega (arith, l)))

module _ (count : ℕ) (shapes : List Shape) (starts : List ℕ) (many : length starts ≡ length shapes) (there : (w : ℕ) → w < length starts → place_at starts w + shape_width (shape_at shapes w) ≤ count) where
  gates_role : (r : Role) (shape : Shape) → RoleFits shapes shape r → All (λ k. k < count) (role_gates starts r shape)
  gates_role (role.Register first next) shape f =
      let l : next < length shapes = f.1.0 in
      let t : place_at starts next + shape_width (shape_at shapes next) ≤ count = there next (omega (arith, l, many)) in
      let w : shape_width (shape_at shapes next) ≡ shape_width shape = ap shape_width f.1.1 in
      counted_below count (shape_width shape) (place_at starts next) (omega (arith, t, w))
  gates_role role.Input shape f = All-nil (λ k. k < count)
  gates_role role.Control shape f = All-nil (λ k. k < count)
  gates_role (role.Free early) shape f = All-nil (λ k. k < count)

  gates_below : (slots : List Slot) → ((i : ℕ) → i < length slots → RoleFits shapes (slot_at slots i).shape (slot_at slots i).role) → All (λ k. k < count) (joined (slot_gates starts) slots)
  gates_below [] f = All-nil (λ k. k < count)
  gates_below (s ∷ slots) f =
      All-append (λ k. k < count) (slot_gates starts s) (joined (slot_gates starts) slots) (gates_role s.role s.shape (f zero (omega arith))) (gates_below slots (λ i l. f (suc i) (omega (arith, l))))

-- ---- variables

module _ (steered : List Bool) (slots : List Slot) (c : Counts) (are : AreCounts slots steered c) where
  kind_within : (k : Kind) → first_of steered slots k + bits_of steered k slots ≤ c.registers + c.early + c.control + c.late
  kind_within Registers = omega (arith, are.registers)
  kind_within Early = omega (arith, are.registers, are.early)
  kind_within Control = omega (arith, are.registers, are.early, are.control)
  kind_within Late = omega (arith, are.registers, are.early, are.control, are.late)

  own_same : (kind : Kind) (width : ℕ) → own kind kind width ≡ width
  own_same Registers width = refl
  own_same Early width = refl
  own_same Control width = refl
  own_same Late width = refl

  place_within : (i : ℕ) → i < length slots → place_of steered slots i + shape_width (slot_at slots i).shape ≤ c.registers + c.early + c.control + c.late
  place_within i l =
      let kind = kind_of steered (slot_at slots i) in
      let a = kind_within kind in
      let m = bits_more steered kind slots i l in
      let n = bits_within steered kind slots (i + 1) in
      let s = own_same kind (shape_width (slot_at slots i).shape) in
      omega (arith, a, m, n, s)

-- ---- all of it

pub parts_of : (c : Circuit) (steered : List Bool) (counts : Counts) (places starts : List ℕ) (old new : List Gate) (nexts : List ℕ) (valid hyp duty : ℕ) → {f : Bits → Bool} → IsCircuit c
    → AreCounts c.slots.items steered counts → ((i : ℕ) → i < length c.slots.items → place_at places i ≡ place_of steered c.slots.items i) → AreWired c places starts old → Adds 0 old new valid f
    → nexts ≡ joined (slot_gates starts) c.slots.items → hyp ≡ place_at starts c.hyp → duty ≡ place_at starts c.duty → AreParts c.slots.items counts new nexts valid hyp duty
parts_of c steered counts places starts old new nexts valid hyp duty is are placed wired adds en eh ed =
    record {
      few = omega (arith, are.few_registers, are.few_early, are.few_control, are.few_late);
      fit = adds.fit total (omega arith) (wired.fit total below);
      init = joined_long slot_init steered Registers (λ s. init_role s.role s.shape (slice_index_or steered s.wire false)) slots ∙ sym are.registers;
      next = ap length en ∙ joined_long (slot_gates starts) steered Registers (λ s. next_role starts s.role s.shape (slice_index_or steered s.wire false)) slots ∙ sym are.registers;
      next_gates = subst (All (λ k. k < length new)) (sym en) (gates_below (length new) shapes starts (wired.many ∙ sym is.shapes) there slots (λ i l. (is.slots i l).role));
      valid = adds.there;
      hyp = subst (λ n. n < length new) (sym eh) (one c.hyp is.hyp);
      duty = subst (λ n. n < length new) (sym ed) (one c.duty is.duty);
      prefer = joined_long slot_prefer steered Control (λ s. prefer_role s.role s.shape (slice_index_or steered s.wire false)) slots ∙ sym are.control;
      widths = widths_sum steered slots ∙ sym are.control;
    }
  where
    slots : List Slot
    slots = c.slots.items

    shapes : List Shape
    shapes = c.shapes.items

    total : ℕ
    total = counts.registers + counts.early + counts.control + counts.late

    longer : length old ≤ length new
    longer = adds.keeps.longer

    there : (w : ℕ) → w < length starts → place_at starts w + shape_width (shape_at shapes w) ≤ length new
    there w l = let t = wired.there w l in let m = longer in omega (arith, t, m)

    one : (w : ℕ) → Carries shapes w Truth → place_at starts w < length new
    one w carried =
        let l : w < length shapes = carried.0 in
        let e : length starts ≡ length shapes = wired.many ∙ sym is.shapes in
        let t : place_at starts w + shape_width (shape_at shapes w) ≤ length new = there w (omega (arith, l, e)) in
        let o : shape_width (shape_at shapes w) ≡ 1 = ap shape_width carried.1 in
        omega (arith, t, o)

    below : AreBelow slots places total
    below i l = let p = place_within steered slots counts are i l in let e = placed i l in omega (arith, p, e)
