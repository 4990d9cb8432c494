-- The Boolean machine of a circuit.
use Rattle.std.specs.Prelude.{◌≡◌, ◌≤◌, ◌<◌, ◌+◌, ◌⊎◌, ⊤, ℕ, Bool, true, false, ◌&&◌, nat_lt, List, [], ◌∷◌, ◌++◌, length, map, replicate}
use Rattle.hp_base.specs.Limits.{most}
use Rattle.hp_base.specs.declared.limit.Limit.{Limit}
use Rattle.hp_base.specs.declared.limit.What.TheVariants as what
use Rattle.hp_boolx.specs.Search.{Bits}
use Rattle.hp_boolx.specs.declared.gate.Gate.{Gate}
use Rattle.hp_boolx.specs.Machine.{Machine}
use Rattle.hp_graph.specs.Graphs.{IsCycle}
use Rattle.hp_circuit.specs.declared.circuit.Circuit.{Circuit}
use Rattle.hp_circuit.specs.declared.circuit.Role.{Role}
use Rattle.hp_circuit.specs.declared.circuit.Role.TheVariants as role
use Rattle.hp_circuit.specs.declared.circuit.Shape.{Shape}
use Rattle.hp_circuit.specs.declared.circuit.Shape.TheVariants.{Truth, Cons, Mark}
use Rattle.hp_circuit.specs.declared.circuit.Slot.{Slot}
use Rattle.hp_circuit.specs.declared.error.CircuitErr.{CircuitErr}
use Rattle.hp_circuit.specs.declared.error.CircuitErr.TheVariants as error
use Rattle.hp_circuit.specs.declared.kind.Kind.{Kind}
use Rattle.hp_circuit.specs.declared.kind.Kind.TheVariants.{Registers, Early, Control, Late}
use Rattle.hp_circuit.specs.Forms.{IsCircuit}
use Rattle.hp_circuit.specs.Numbers.{to_bits}
use Rattle.hp_circuit.specs.Shapes.{shape_width}
use Rattle.hp_circuit.specs.Meaning.{holds, Solves}
use Rattle.hp_circuit.specs.Adding.{at}
use Rattle.hp_circuit.specs.Making.{place_at, slot_number}
use Rattle.hp_circuit.specs.Kinds.{what_of, turn, bits_of, place_of}
use Rattle.hp_circuit.specs.Reading.{edges_of, IsSteered, AreSteered}

-- what slots give in order, one list each
abbrev pub joined : {A : Type 0} → (Slot → List A) → List Slot → List A
joined f [] = []
joined f (slot ∷ slots) = f slot ++ joined f slots

abbrev pub is_truth : Shape → Bool
is_truth Truth = true
is_truth (Cons count) = false
is_truth Mark = false

-- how many control bits a controllable variable has, and what is preferred of each: true of a truth value, false of a constructor
abbrev pub role_widths : Role → Shape → List ℕ
role_widths (role.Register first next) shape = []
role_widths role.Input shape = []
role_widths role.Control shape = shape_width shape ∷ []
role_widths (role.Free early) shape = []

abbrev pub role_prefer : Role → Shape → Bits
role_prefer (role.Register first next) shape = []
role_prefer role.Input shape = []
role_prefer role.Control shape = replicate (shape_width shape) (is_truth shape)
role_prefer (role.Free early) shape = []

-- the bits that a register holds at first, and those that it holds next, where wires have these numbers
abbrev pub role_init : Role → Shape → Bits
role_init (role.Register first next) shape = to_bits (shape_width shape) first
role_init role.Input shape = []
role_init role.Control shape = []
role_init (role.Free early) shape = []

abbrev pub role_next : (ℕ → ℕ) → Role → Shape → Bits
role_next numbers (role.Register first next) shape = to_bits (shape_width shape) (numbers next)
role_next numbers role.Input shape = []
role_next numbers role.Control shape = []
role_next numbers (role.Free early) shape = []

abbrev pub slot_widths : Slot → List ℕ
slot_widths slot = role_widths slot.role slot.shape

abbrev pub slot_prefer : Slot → Bits
slot_prefer slot = role_prefer slot.role slot.shape

abbrev pub slot_init : Slot → Bits
slot_init slot = role_init slot.role slot.shape

abbrev pub slot_next : (ℕ → ℕ) → Slot → Bits
slot_next numbers slot = role_next numbers slot.role slot.shape

-- whether the number of a slot is that of a value; a register's is not asked
abbrev pub shape_valid : Shape → ℕ → Bool
shape_valid Truth k = true
shape_valid (Cons count) k = nat_lt k count
shape_valid Mark k = true

abbrev pub role_valid : Role → Shape → ℕ → Bool
role_valid (role.Register first next) shape k = true
role_valid role.Input shape k = shape_valid shape k
role_valid role.Control shape k = shape_valid shape k
role_valid (role.Free early) shape k = shape_valid shape k

abbrev pub all_valid : (ℕ → ℕ) → List Slot → Bool
all_valid numbers [] = true
all_valid numbers (slot ∷ slots) = role_valid slot.role slot.shape (numbers slot.wire) && all_valid numbers slots

-- Under a valuation of the variables wires have numbers, and no others: those of which the machine's gates are the bits.
pub record IsMeant (c : Circuit) (places : List ℕ) (gates : List Gate) (nexts : List ℕ) (is_valid hyp_gate duty_gate : ℕ) (v : Bits) : Type 0 where
  pub numbers : ℕ → ℕ
  pub solves : Solves c.wires.items (slot_number c.slots.items places v) numbers
  pub only : (other : ℕ → ℕ) → Solves c.wires.items (slot_number c.slots.items places v) other → (w : ℕ) → w < length c.wires.items → other w ≡ numbers w
  pub next : map (at gates v) nexts ≡ joined (slot_next numbers) c.slots.items
  pub valid : at gates v is_valid ≡ all_valid numbers c.slots.items
  pub hyp : at gates v hyp_gate ≡ holds (numbers c.hyp)
  pub duty : at gates v duty_gate ≡ holds (numbers c.duty)

-- the assumption of a circuit reads a controllable variable
abbrev pub AssumesControl : Circuit → Type 0
AssumesControl c = IsSteered c.slots.items (edges_of c.wires.items c.reads.items) c.assume

-- wires read each other in a circle
abbrev pub HasCircle : Circuit → Type 0
HasCircle c = (wires : List ℕ) × IsCycle (edges_of c.wires.items c.reads.items) wires

-- It has the name, the circuit has form, no wires read each other in a circle, and counts are within the limits. It is known which wires read a controllable variable, and the
-- assumption does not. So there are as many variables of each kind as the slots of that kind have bits, each slot has its place among them, and the gates are the bits of the wires' numbers.
pub record IsMachineOf (name : List ℕ) (c : Circuit) (m : Machine) : Type 0 where
  pub named : m.name ≡ name
  pub form : IsCircuit c
  pub acyclic : HasCircle c → ⊥
  pub registers : m.registers ≤ most what.Registers
  pub early : m.early ≤ most what.Early
  pub control : m.control ≤ most what.Control
  pub late : m.late ≤ most what.Late
  pub steered : List Bool
  pub are_steered : AreSteered c.slots.items (edges_of c.wires.items c.reads.items) steered
  pub assume : AssumesControl c → ⊥
  pub many_registers : m.registers ≡ bits_of steered Registers c.slots.items
  pub many_early : m.early ≡ bits_of steered Early c.slots.items
  pub many_control : m.control ≡ bits_of steered Control c.slots.items
  pub many_late : m.late ≡ bits_of steered Late c.slots.items
  pub widths : m.widths ≡ joined slot_widths c.slots.items
  pub prefer : m.prefer ≡ joined slot_prefer c.slots.items
  pub init : m.init ≡ joined slot_init c.slots.items
  pub places : List ℕ
  pub placed : (i : ℕ) → i < length c.slots.items → place_at places i ≡ place_of steered c.slots.items i
  pub meant : (v : Bits) → IsMeant c places m.gates m.next m.valid m.hyp m.duty v

-- Where there are so many bits of each kind, a limit is that of the first kind of which there are too many; it is said of it that one too many was found.
pub record IsFirstPassed (bits : Kind → ℕ) (limit : Limit) : Type 0 where
  pub kind : Kind
  pub limited : limit.what ≡ what_of kind
  pub found : limit.found ≡ most limit.what + 1
  pub over : most limit.what < bits kind
  pub before : (other : Kind) → turn other < turn kind → bits other ≤ most (what_of other)

-- It is a circuit whose assumption reads no controllable variable, and its slots have too many bits.
pub record IsOver (c : Circuit) (limit : Limit) : Type 0 where
  pub form : IsCircuit c
  pub assume : AssumesControl c → ⊥
  pub steered : List Bool
  pub are_steered : AreSteered c.slots.items (edges_of c.wires.items c.reads.items) steered
  pub first : IsFirstPassed (λ kind. bits_of steered kind c.slots.items) limit

-- Why a circuit has no machine: a limit is passed, its assumption reads a controllable variable, it is no circuit, or memory is wanting.
abbrev pub HasNoMachine : Circuit → CircuitErr → Type 0
HasNoMachine c (error.Limit limit) = IsOver c limit
HasNoMachine c error.Steered = IsCircuit c × AssumesControl c
HasNoMachine c error.NoCircuit = (IsCircuit c → ⊥) ⊎ HasCircle c
HasNoMachine c error.OutOfMemory = ⊤
