-- What the gates of the machine of a circuit say at a valuation that is made of codes.
use Rattle.std.proofs.Common.{◌≡◌, ℕ, suc, ◌<◌, ◌&&◌, List, [], ◌∷◌, ◌++◌, length, refl, sym, ap, ap₂, ◌∙◌, arith}
use Rattle.hp_boolx.specs.Search.{Bits}
use Rattle.hp_circuit.specs.declared.circuit.Role.{Role}
use Rattle.hp_circuit.specs.declared.circuit.Role.TheVariants as role
use Rattle.hp_circuit.specs.declared.circuit.Shape.{Shape}
use Rattle.hp_circuit.specs.declared.circuit.Slot.{Slot}
use Rattle.hp_circuit.specs.declared.circuit.Wire.{Wire}
use Rattle.hp_circuit.specs.declared.circuit.Wire.TheVariants as wire
use Rattle.hp_circuit.specs.Forms.{shape_at, wire_at, slot_at, WireFits, IsOfSlot, RoleFits}
use Rattle.hp_circuit.specs.Machines as machines
use Rattle.hp_circuit.specs.Machines.{IsMachineOf, role_next, slot_next, role_valid, all_valid}
use Rattle.hp_circuit.specs.Making.{slot_number}
use Rattle.hp_circuit.specs.Meaning.{holds, wire_value, Solves}
use Rattle.hp_circuit.specs.Numbers.{number, to_bits}
use Rattle.hp_circuit.specs.Shapes.{shape_width}
use Rattle.hp_circuit.specs.Placed.Valuations.{AreWide, code_at, valuation_of, are_values, ValidCodesLaw, ToldLaw}
use Rattle.hp_circuit.proofs.PlacedLemmas.Rows.{slot_numbers}

-- ---- numbers of slots that are the same give the same numbers of wires

same_value : (slots : List Slot) (shapes : List Shape) (shape : Shape) (f g numbers : ℕ → ℕ) (w : Wire) → ((i : ℕ) → i < length slots → f i ≡ g i) → WireFits slots shapes shape w → wire_value f numbers w ≡ wire_value g numbers w
same_value slots shapes shape f g numbers (wire.Slot i) same fits = same i fits.0
same_value slots shapes shape f g numbers (wire.Constant k) same fits = refl
same_value slots shapes shape f g numbers (wire.Copy a) same fits = refl
same_value slots shapes shape f g numbers (wire.Not a) same fits = refl
same_value slots shapes shape f g numbers (wire.And a b) same fits = refl
same_value slots shapes shape f g numbers (wire.Or a b) same fits = refl
same_value slots shapes shape f g numbers (wire.Xor a b) same fits = refl
same_value slots shapes shape f g numbers (wire.Equal a b) same fits = refl
same_value slots shapes shape f g numbers (wire.Is a k) same fits = refl
same_value slots shapes shape f g numbers (wire.If t a b) same fits = refl

-- a slot's wire has the slot's number
slot_value : (slot numbers : ℕ → ℕ) (i : ℕ) (w : Wire) → IsOfSlot i w → wire_value slot numbers w ≡ slot i
slot_value slot numbers i (wire.Slot k) e = ap slot e
slot_value slot numbers i (wire.Constant k) e = absurd e
slot_value slot numbers i (wire.Copy a) e = absurd e
slot_value slot numbers i (wire.Not a) e = absurd e
slot_value slot numbers i (wire.And a b) e = absurd e
slot_value slot numbers i (wire.Or a b) e = absurd e
slot_value slot numbers i (wire.Xor a b) e = absurd e
slot_value slot numbers i (wire.Equal a b) e = absurd e
slot_value slot numbers i (wire.Is a k) e = absurd e
slot_value slot numbers i (wire.If t a b) e = absurd e

-- ---- slots one by one

valid_each : (numbers : ℕ → ℕ) (slots : List Slot) (codes : List Bits) → AreWide slots codes → ((i : ℕ) → i < length slots → numbers (slot_at slots i).wire ≡ number (code_at codes i)) → all_valid numbers slots ≡ are_values slots codes
valid_each numbers [] [] h each = refl
valid_each numbers [] (code ∷ codes) h each = absurd h
valid_each numbers (slot ∷ slots) [] h each = absurd h
valid_each numbers (slot ∷ slots) (code ∷ codes) h each =
    ap₂ (λ a b. a && b) (ap (role_valid slot.role slot.shape) (each 0 (omega arith))) (valid_each numbers slots codes h.1 (λ i within. each (suc i) (omega (arith, within))))

next_role : (f g : ℕ → ℕ) (count : ℕ) (shapes : List Shape) (shape : Shape) (r : Role) → length shapes ≡ count → RoleFits shapes shape r → ((w : ℕ) → w < count → f w ≡ g w) → role_next f r shape ≡ role_next g r shape
next_role f g count shapes shape (role.Register first next) e fits same = ap (to_bits (shape_width shape)) (same next (omega (arith, e, fits.1.0)))
next_role f g count shapes shape role.Input e fits same = refl
next_role f g count shapes shape role.Control e fits same = refl
next_role f g count shapes shape (role.Free early) e fits same = refl

next_each : (f g : ℕ → ℕ) (count : ℕ) (shapes : List Shape) (slots : List Slot) → length shapes ≡ count → ((i : ℕ) → i < length slots → RoleFits shapes (slot_at slots i).shape (slot_at slots i).role) → ((w : ℕ) → w < count → f w ≡ g w)
    → machines.joined (slot_next f) slots ≡ machines.joined (slot_next g) slots
next_each f g count shapes [] e fits same = refl
next_each f g count shapes (slot ∷ slots) e fits same =
    ap₂ (λ a b. a ++ b) (next_role f g count shapes slot.shape slot.role e (fits 0 (omega arith)) same) (next_each f g count shapes slots e (λ i within. fits (suc i) (omega (arith, within))) same)

-- ---- the laws

pub valid_codes : ValidCodesLaw
valid_codes name c m made codes h =
    let v = valuation_of made.steered c.slots.items codes in
    let meant = made.meant v in
    meant.valid
    ∙ valid_each meant.numbers c.slots.items codes h
    (λ i within.
    let fits = made.form.slots i within in
    meant.solves (slot_at c.slots.items i).wire fits.there
    ∙ slot_value (slot_number c.slots.items made.places v) meant.numbers i (wire_at c.wires.items (slot_at c.slots.items i).wire) fits.mine
    ∙ slot_numbers name c m made codes h i within)

pub told : ToldLaw
told name c m made codes h numbers solves =
    let v = valuation_of made.steered c.slots.items codes in
    let meant = made.meant v in
    let form = made.form in
    let slot = slot_number c.slots.items made.places v in
    let count : length c.shapes.items ≡ length c.wires.items = form.shapes in
    let here : Solves c.wires.items slot numbers =
    λ w within.
    solves w within
    ∙ same_value c.slots.items c.shapes.items (shape_at c.shapes.items w) (λ i. number (code_at codes i)) slot numbers (wire_at c.wires.items w)
    (λ i inside. sym (slot_numbers name c m made codes h i inside)) (form.wires.fit w (omega (arith, within, count))) in
    let same : (w : ℕ) → w < length c.wires.items → meant.numbers w ≡ numbers w = λ w within. sym (meant.only numbers here w within) in
    record {
      next = meant.next ∙ next_each meant.numbers numbers (length c.wires.items) c.shapes.items c.slots.items count (λ i within. (form.slots i within).role) same;
      hyp = meant.hyp ∙ ap holds (same c.hyp (omega (arith, form.hyp.0, count)));
      duty = meant.duty ∙ ap holds (same c.duty (omega (arith, form.duty.0, count)));
    }
