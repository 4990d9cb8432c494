-- What the wires of a circuit mean: numbers, each of which its definition gives of the others.
use Rattle.std.specs.Prelude.{ℕ, zero, suc, ◌<◌, ◌≡◌, nat_eq, Bool, true, false, not, ◌&&◌, ◌||◌, if◌then◌else◌, List, length}
use Rattle.hp_circuit.specs.declared.circuit.Wire.{Wire}
use Rattle.hp_circuit.specs.declared.circuit.Wire.TheVariants as wire
use Rattle.hp_circuit.specs.Forms.{wire_at}

-- numbers as truth values, and back
abbrev pub holds : ℕ → Bool
holds zero = false
holds (suc k) = true

abbrev pub truth : Bool → ℕ
truth b = if b then 1 else 0

-- the number of a wire, from those of slots and of other wires
abbrev pub wire_value : (ℕ → ℕ) → (ℕ → ℕ) → Wire → ℕ
wire_value slot wires (wire.Slot i) = slot i
wire_value slot wires (wire.Constant k) = k
wire_value slot wires (wire.Copy a) = wires a
wire_value slot wires (wire.Not a) = truth (not (holds (wires a)))
wire_value slot wires (wire.And a b) = truth (holds (wires a) && holds (wires b))
wire_value slot wires (wire.Or a b) = truth (holds (wires a) || holds (wires b))
wire_value slot wires (wire.Xor a b) = truth (if holds (wires a) then not (holds (wires b)) else holds (wires b))
wire_value slot wires (wire.Equal a b) = truth (nat_eq (wires a) (wires b))
wire_value slot wires (wire.Is a k) = truth (nat_eq (wires a) k)
wire_value slot wires (wire.If t a b) = if holds (wires t) then wires a else wires b

-- each wire has the number that its definition gives
abbrev pub Solves : List Wire → (ℕ → ℕ) → (ℕ → ℕ) → Type 0
Solves wires slot numbers = (i : ℕ) → i < length wires → numbers i ≡ wire_value slot numbers (wire_at wires i)
