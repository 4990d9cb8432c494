-- What wires read, and which read a controllable variable by some chain.
use Rattle.std.specs.Prelude.{ℕ, suc, ◌≡◌, ◌<◌, ◌↔◌, List, [], ◌∷◌, ◌++◌, length, slice_index_or, Contains, Bool, false, IsTrue}
use Rattle.hp_circuit.specs.declared.circuit.Role.TheVariants as role
use Rattle.hp_circuit.specs.declared.circuit.Slot.{Slot}
use Rattle.hp_circuit.specs.declared.circuit.Wire.{Wire}
use Rattle.hp_circuit.specs.declared.circuit.Wire.TheVariants as wire
use Rattle.hp_circuit.specs.Forms.{slot_at}

-- a wire, and each that gives it its value
abbrev pub operand_edges : ℕ → Wire → List (ℕ × ℕ)
operand_edges i (wire.Slot k) = []
operand_edges i (wire.Constant k) = []
operand_edges i (wire.Copy a) = (i, a) ∷ []
operand_edges i (wire.Not a) = (i, a) ∷ []
operand_edges i (wire.And a b) = (i, a) ∷ (i, b) ∷ []
operand_edges i (wire.Or a b) = (i, a) ∷ (i, b) ∷ []
operand_edges i (wire.Xor a b) = (i, a) ∷ (i, b) ∷ []
operand_edges i (wire.Equal a b) = (i, a) ∷ (i, b) ∷ []
operand_edges i (wire.Is a k) = (i, a) ∷ []
operand_edges i (wire.If t a b) = (i, t) ∷ (i, a) ∷ (i, b) ∷ []

-- those of some wires, which are numbered from one on
abbrev pub wire_edges : ℕ → List Wire → List (ℕ × ℕ)
wire_edges i [] = []
wire_edges i (w ∷ ws) = operand_edges i w ++ wire_edges (suc i) ws

-- what wires read: what gives them their values, and what else they read
abbrev pub edges_of : List Wire → List (ℕ × ℕ) → List (ℕ × ℕ)
edges_of wires reads = wire_edges 0 wires ++ reads

-- the wire is that of a controllable variable among the first slots
abbrev pub IsControlBefore : List Slot → ℕ → ℕ → Type 0
IsControlBefore slots many w = (i : ℕ) × (i < many) × ((slot_at slots i).role ≡ role.Control) × ((slot_at slots i).wire ≡ w)

-- the wire is that of a controllable variable
abbrev pub IsControl : List Slot → ℕ → Type 0
IsControl slots w = IsControlBefore slots (length slots) w

-- Wires read each other, one after another, to that of a controllable variable.
pub data IsSteered (slots : List Slot) (edges : List (ℕ × ℕ)) : ℕ → Type 0 where
  controls : (w : ℕ) → IsControl slots w → IsSteered slots edges w
  reads : (w a : ℕ) → Contains edges (w, a) → IsSteered slots edges a → IsSteered slots edges w

-- a wire is marked
abbrev pub IsMarked : List Bool → ℕ → Type 0
IsMarked marks w = IsTrue (slice_index_or marks w false)

-- It is said of each wire whether it reads a controllable variable.
abbrev pub AreSteered : List Slot → List (ℕ × ℕ) → List Bool → Type 0
AreSteered slots edges steered = (w : ℕ) → IsMarked steered w ↔ IsSteered slots edges w
