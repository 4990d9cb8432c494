-- The kinds of variables that hold slots, and where they are.
use Rattle.std.specs.Prelude.{ℕ, ◌+◌, Bool, true, false, List, [], ◌∷◌, take, slice_index_or}
use Rattle.hp_base.specs.declared.limit.What.{What}
use Rattle.hp_base.specs.declared.limit.What.TheVariants as what
use Rattle.hp_circuit.specs.declared.kind.Kind.{Kind}
use Rattle.hp_circuit.specs.declared.kind.Kind.TheVariants.{Registers, Early, Control, Late}
use Rattle.hp_circuit.specs.declared.circuit.Role.{Role}
use Rattle.hp_circuit.specs.declared.circuit.Role.TheVariants as role
use Rattle.hp_circuit.specs.declared.circuit.Slot.{Slot}
use Rattle.hp_circuit.specs.Shapes.{shape_width}
use Rattle.hp_circuit.specs.Forms.{slot_at}

abbrev pub what_of : Kind → What
what_of Registers = what.Registers
what_of Early = what.Early
what_of Control = what.Control
what_of Late = what.Late

-- the order in which limits are looked at
abbrev pub turn : Kind → ℕ
turn Registers = 0
turn Early = 1
turn Control = 2
turn Late = 3

-- the kind of a slot, where it is said whether its wire reads a controllable variable
abbrev pub role_kind : Role → Bool → Kind
role_kind (role.Register first next) steered = Registers
role_kind role.Input steered = Early
role_kind role.Control steered = Control
role_kind (role.Free false) steered = Late
role_kind (role.Free true) false = Early
role_kind (role.Free true) true = Late

abbrev pub kind_of : List Bool → Slot → Kind
kind_of steered slot = role_kind slot.role (slice_index_or steered slot.wire false)

-- a width, for its own kind
abbrev pub own : Kind → Kind → ℕ → ℕ
own Registers Registers width = width
own Early Early width = width
own Control Control width = width
own Late Late width = width
own kind other width = 0

-- how many bits the slots of a kind have together
abbrev pub bits_of : List Bool → Kind → List Slot → ℕ
bits_of steered kind [] = 0
bits_of steered kind (slot ∷ slots) = own kind (kind_of steered slot) (shape_width slot.shape) + bits_of steered kind slots

-- registers come first, then early values, then controllable variables, then late values
abbrev pub first_of : List Bool → List Slot → Kind → ℕ
first_of steered slots Registers = 0
first_of steered slots Early = bits_of steered Registers slots
first_of steered slots Control = bits_of steered Registers slots + bits_of steered Early slots
first_of steered slots Late = bits_of steered Registers slots + bits_of steered Early slots + bits_of steered Control slots

-- the first variable of a slot: those of its kind stand in order
abbrev pub place_of : List Bool → List Slot → ℕ → ℕ
place_of steered slots i = first_of steered slots (kind_of steered (slot_at slots i)) + bits_of steered (kind_of steered (slot_at slots i)) (take i slots)
