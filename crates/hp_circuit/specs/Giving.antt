-- What is given to the machine of a circuit, and gates that tell what wires hold.
use Rattle.std.specs.Prelude.{ℕ, ◌≡◌, ◌<◌, Bool, true, false, List, [], ◌∷◌, length, map, slice_index_or}
use Rattle.hp_boolx.specs.Search.{Bits}
use Rattle.hp_boolx.specs.declared.gate.Gate.{Gate}
use Rattle.hp_circuit.specs.declared.abstraction.Abstraction.{Abstraction}
use Rattle.hp_circuit.specs.declared.circuit.Circuit.{Circuit}
use Rattle.hp_circuit.specs.declared.circuit.Role.{Role}
use Rattle.hp_circuit.specs.declared.circuit.Role.TheVariants as role
use Rattle.hp_circuit.specs.declared.circuit.Shape.{Shape}
use Rattle.hp_circuit.specs.declared.circuit.Shape.TheVariants.{Truth, Cons, Mark}
use Rattle.hp_circuit.specs.declared.circuit.Slot.{Slot}
use Rattle.hp_circuit.specs.declared.given.Given.{Given}
use Rattle.hp_circuit.specs.declared.kind.Kind.{Kind}
use Rattle.hp_circuit.specs.declared.kind.Kind.TheVariants.{Registers, Early, Control, Late}
use Rattle.hp_circuit.specs.Forms.{shape_at, Carries}
use Rattle.hp_circuit.specs.Meaning.{holds, Solves}
use Rattle.hp_circuit.specs.Adding.{at}
use Rattle.hp_circuit.specs.Building.{IsBuilt}
use Rattle.hp_circuit.specs.Making.{place_at, slot_number}
use Rattle.hp_circuit.specs.Kinds.{kind_of}
use Rattle.hp_circuit.specs.Machines.{joined, IsMachineOf}

-- ---- what is given

abbrev pub is_early : Kind → Bool
is_early Registers = false
is_early Early = true
is_early Control = false
is_early Late = false

abbrev pub given_as : Shape → Bool → Given
given_as shape early = record { shape = shape; is_early = early }

-- what is given to a slot of this role, if it is an input or free
abbrev pub role_given : Role → Shape → Bool → List Given
role_given (role.Register first next) shape early = []
role_given role.Input shape early = given_as shape early ∷ []
role_given role.Control shape early = []
role_given (role.Free may_be_early) shape early = given_as shape early ∷ []

abbrev pub slot_given : List Bool → Slot → List Given
slot_given steered slot = role_given slot.role slot.shape (is_early (kind_of steered slot))

-- in the order of slots, where it is said of each wire whether it reads a controllable variable
abbrev pub given_of : List Bool → List Slot → List Given
given_of steered slots = joined (slot_given steered) slots

-- ---- gates that tell what wires hold

-- the first gate of a wire that carries this shape; the gate that is false where it is no truth value
abbrev pub truth_gate : Shape → ℕ → ℕ
truth_gate Truth start = start
truth_gate (Cons count) start = 0
truth_gate Mark start = 0

-- that of a wire, where wires have these first gates
abbrev pub gate_of : List Shape → List ℕ → ℕ → ℕ
gate_of shapes starts w = truth_gate (shape_at shapes w) (place_at starts w)

-- There is such a gate, and where the wire carries a truth value, the gate has that value under each valuation.
pub record IsGateOf (c : Circuit) (places : List ℕ) (gates : List Gate) (w gate : ℕ) : Type 0 where
  pub there : gate < length gates
  pub value : Carries c.shapes.items w Truth → (v : Bits) (numbers : ℕ → ℕ) → Solves c.wires.items (slot_number c.slots.items places v) numbers → at gates v gate ≡ holds (numbers w)

-- It is the machine of a circuit, with what is given to it in the order of slots and a gate for each of some wires. The circuit determines all of it.
pub record IsAbstractionOf (name : List ℕ) (c : Circuit) (wires : List ℕ) (a : Abstraction) : Type 0 where
  pub machine : IsMachineOf name c a.machine
  pub given : a.given.items ≡ given_of machine.steered c.slots.items
  pub many : length a.gates.items ≡ length wires
  pub gates : (i : ℕ) → i < length wires → IsGateOf c machine.places a.machine.gates (slice_index_or wires i 0) (slice_index_or a.gates.items i 0)
  pub starts : List ℕ
  pub built : IsBuilt c starts a.machine
  pub tell : a.gates.items ≡ map (gate_of c.shapes.items starts) wires
