-- How variables are given: words for the contracts of private functions.
use Rattle.std.specs.Prelude.{ℕ, zero, suc, ◌+◌, ◌≡◌, ◌≤◌, ◌<◌, length, List, [], ◌∷◌, Bool}
use Rattle.hp_base.specs.Limits.{most}
use Rattle.hp_base.specs.declared.limit.Limit.{Limit}
use Rattle.hp_boolx.specs.declared.machine.Counts.{Counts}
use Rattle.hp_circuit.specs.declared.kind.Kind.{Kind}
use Rattle.hp_circuit.specs.declared.kind.Kind.TheVariants.{Registers, Early, Control, Late}
use Rattle.hp_circuit.specs.declared.circuit.Role.{Role}
use Rattle.hp_circuit.specs.declared.circuit.Role.TheVariants as role
use Rattle.hp_circuit.specs.declared.circuit.Shape.{Shape}
use Rattle.hp_circuit.specs.declared.circuit.Slot.{Slot}
use Rattle.hp_boolx.specs.declared.gate.Gate.{Gate}
use Rattle.hp_boolx.specs.Search.{Bits}
use Rattle.hp_boolx.specs.Machine.{AreFit}
use Rattle.hp_circuit.specs.declared.circuit.Circuit.{Circuit}
use Rattle.hp_circuit.specs.Numbers.{number}
use Rattle.hp_circuit.specs.Shapes.{shape_width}
use Rattle.hp_circuit.specs.Forms.{shape_at}
use Rattle.hp_circuit.specs.Meaning.{Solves}
use Rattle.hp_circuit.specs.Adding.{word, HasFirst}
use Rattle.hp_circuit.specs.Making.{place_at, slot_number, AreBelow}
use Rattle.hp_circuit.specs.Kinds.{what_of, bits_of}

-- what counts say of a kind
abbrev pub of_kind : Kind → Counts → ℕ
of_kind Registers c = c.registers
of_kind Early c = c.early
of_kind Control c = c.control
of_kind Late c = c.late

-- A limit is that of a kind of which the slots have too many bits.
pub record IsOverBy (steered : List Bool) (slots : List Slot) (kind : Kind) (limit : Limit) : Type 0 where
  pub limited : limit.what ≡ what_of kind
  pub found : limit.found ≡ most limit.what + 1
  pub over : most limit.what < bits_of steered kind slots

-- The counts are those of the slots, and within the limits.
pub record AreCounts (slots : List Slot) (steered : List Bool) (c : Counts) : Type 0 where
  pub registers : c.registers ≡ bits_of steered Registers slots
  pub early : c.early ≡ bits_of steered Early slots
  pub control : c.control ≡ bits_of steered Control slots
  pub late : c.late ≡ bits_of steered Late slots
  pub few_registers : c.registers ≤ 64
  pub few_early : c.early ≤ 64
  pub few_control : c.control ≤ 16
  pub few_late : c.late ≤ 64

-- numbers one behind the other
abbrev pub counted : ℕ → ℕ → List ℕ
counted start zero = []
counted start (suc width) = start ∷ counted (suc start) width

-- the gates of what a register holds next, from the first gates of wires
abbrev pub role_gates : List ℕ → Role → Shape → List ℕ
role_gates starts (role.Register first next) shape = counted (place_at starts next) (shape_width shape)
role_gates starts role.Input shape = []
role_gates starts role.Control shape = []
role_gates starts (role.Free early) shape = []

abbrev pub slot_gates : List ℕ → Slot → List ℕ
slot_gates starts slot = role_gates starts slot.role slot.shape

-- the number of a wire that has this first gate
abbrev pub start_number : List Shape → List Gate → List ℕ → Bits → ℕ → ℕ
start_number shapes gates starts v w = number (word gates v (place_at starts w) (shape_width (shape_at shapes w)))

-- All wires have gates, which have their numbers.
pub record AreWired (c : Circuit) (places starts : List ℕ) (gates : List Gate) : Type 0 where
  pub first : HasFirst gates
  pub fit : (all : ℕ) → AreBelow c.slots.items places all → AreFit all 0 gates
  pub many : length starts ≡ length c.wires.items
  pub there : (w : ℕ) → w < length starts → place_at starts w + shape_width (shape_at c.shapes.items w) ≤ length gates
  pub solves : (v : Bits) → Solves c.wires.items (slot_number c.slots.items places v) (start_number c.shapes.items gates starts v)
  pub only : (v : Bits) (other : ℕ → ℕ) → Solves c.wires.items (slot_number c.slots.items places v) other → (w : ℕ) → w < length c.wires.items → other w ≡ start_number c.shapes.items gates starts v w
