-- What a circuit is: numbers name wires and slots, and shapes fit.
use Rattle.std.specs.Prelude.{ℕ, ◌<◌, ◌≡◌, ◌≤◌, ⊤, List, length, slice_index_or, All}
use Rattle.hp_circuit.specs.declared.circuit.Circuit.{Circuit}
use Rattle.hp_circuit.specs.declared.circuit.Role.{Role}
use Rattle.hp_circuit.specs.declared.circuit.Role.TheVariants as role
use Rattle.hp_circuit.specs.declared.circuit.Shape.{Shape}
use Rattle.hp_circuit.specs.declared.circuit.Shape.TheVariants.{Truth, Cons, Mark}
use Rattle.hp_circuit.specs.declared.circuit.Slot.{Slot}
use Rattle.hp_circuit.specs.declared.circuit.Wire.{Wire}
use Rattle.hp_circuit.specs.declared.circuit.Wire.TheVariants as wire

abbrev pub shape_at : List Shape → ℕ → Shape
shape_at shapes i = slice_index_or shapes i Mark

abbrev pub wire_at : List Wire → ℕ → Wire
wire_at wires i = slice_index_or wires i (wire.Constant 0)

abbrev pub no_slot : Slot
no_slot = record { role = role.Input; shape = Truth; wire = 0 }

abbrev pub slot_at : List Slot → ℕ → Slot
slot_at slots i = slice_index_or slots i no_slot

-- a shape has values
abbrev pub IsShape : Shape → Type 0
IsShape Truth = ⊤
IsShape (Cons count) = 1 ≤ count
IsShape Mark = ⊤

-- the number is that of a value
abbrev pub IsValue : Shape → ℕ → Type 0
IsValue Truth k = k < 2
IsValue (Cons count) k = k < count
IsValue Mark k = k ≡ 0

-- there is such a wire, and it carries this shape
abbrev pub Carries : List Shape → ℕ → Shape → Type 0
Carries shapes i shape = (i < length shapes) × (shape_at shapes i ≡ shape)

-- a wire of this shape fits what it reads
abbrev pub WireFits : List Slot → List Shape → Shape → Wire → Type 0
WireFits slots shapes shape (wire.Slot i) = (i < length slots) × ((slot_at slots i).shape ≡ shape)
WireFits slots shapes shape (wire.Constant k) = IsValue shape k
WireFits slots shapes shape (wire.Copy a) = Carries shapes a shape
WireFits slots shapes shape (wire.Not a) = (shape ≡ Truth) × Carries shapes a Truth
WireFits slots shapes shape (wire.And a b) = (shape ≡ Truth) × Carries shapes a Truth × Carries shapes b Truth
WireFits slots shapes shape (wire.Or a b) = (shape ≡ Truth) × Carries shapes a Truth × Carries shapes b Truth
WireFits slots shapes shape (wire.Xor a b) = (shape ≡ Truth) × Carries shapes a Truth × Carries shapes b Truth
WireFits slots shapes shape (wire.Equal a b) = (shape ≡ Truth) × (a < length shapes) × Carries shapes b (shape_at shapes a)
WireFits slots shapes shape (wire.Is a k) = (shape ≡ Truth) × (a < length shapes) × IsValue (shape_at shapes a) k
WireFits slots shapes shape (wire.If t a b) = Carries shapes t Truth × Carries shapes a shape × Carries shapes b shape

-- a register's first number is a value, and its next wire carries its shape
abbrev pub RoleFits : List Shape → Shape → Role → Type 0
RoleFits shapes shape (role.Register first next) = IsValue shape first × Carries shapes next shape
RoleFits shapes shape role.Input = ⊤
RoleFits shapes shape role.Control = ⊤
RoleFits shapes shape (role.Free early) = ⊤

-- the wire is that of the slot of this number
abbrev pub IsOfSlot : ℕ → Wire → Type 0
IsOfSlot i (wire.Slot k) = k ≡ i
IsOfSlot i w = ⊥

pub record SlotFits (wires : List Wire) (shapes : List Shape) (i : ℕ) (slot : Slot) : Type 0 where
  pub there : slot.wire < length wires
  pub mine : IsOfSlot i (wire_at wires slot.wire)
  pub carried : Carries shapes slot.wire slot.shape
  pub role : RoleFits shapes slot.shape slot.role

pub record AreWires (slots : List Slot) (wires : List Wire) (shapes : List Shape) : Type 0 where
  pub shaped : (i : ℕ) → i < length shapes → IsShape (shape_at shapes i)
  pub fit : (i : ℕ) → i < length shapes → WireFits slots shapes (shape_at shapes i) (wire_at wires i)

pub record IsCircuit (c : Circuit) : Type 0 where
  pub shapes : length c.shapes.items ≡ length c.wires.items
  pub wires : AreWires c.slots.items c.wires.items c.shapes.items
  pub slots : (i : ℕ) → i < length c.slots.items → SlotFits c.wires.items c.shapes.items i (slot_at c.slots.items i)
  pub reads : All (λ r. (r.0 < length c.wires.items) × (r.1 < length c.wires.items)) c.reads.items
  pub assume : Carries c.shapes.items c.assume Truth
  pub hyp : Carries c.shapes.items c.hyp Truth
  pub duty : Carries c.shapes.items c.duty Truth
