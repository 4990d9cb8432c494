-- The Boolean machine of a node's contract.
use Rattle.std.specs.Prelude.{◌≡◌, ◌≤◌, ◌+◌, ◌⊎◌, ⊤, Contains, ℕ, true, false, List, [], ◌∷◌, ◌++◌, map, Option, None, Some, replicate, sum}
use Rattle.hp_base.specs.Limits.{most}
use Rattle.hp_base.specs.declared.limit.What.TheVariants.{Registers, Early, Control, Late}
use Rattle.hp_base.specs.declared.span.Span.{Span}
use Rattle.hp_boolx.specs.Machine.{Machine}
use Rattle.hp_boolx.specs.Search.{Bits}
use Rattle.hp_tree.specs.declared.program.Item.{Item}
use Rattle.hp_tree.specs.Meaning.{types_of}
use Rattle.hp_tree.specs.Expressions.{Expr}
use Rattle.hp_tree.specs.Programs.{Contract, TypeDecl, Node}
use Rattle.hp_meaning.specs.Causal.Points.{span_of}
use Rattle.hp_meaning.specs.Contract.Codes.{width}
use Rattle.hp_meaning.specs.Contract.Forgetting.{ContractsCallNothing}
use Rattle.hp_meaning.specs.Contract.Memory.{bits}
use Rattle.hp_meaning.specs.Contract.Slots.{Shape, truth, mark, cons, Slot, control, FreePlace, width_of, shape_of, slots_of_node, free_places, registers}
use Rattle.hp_circuit.specs.declared.circuit.Circuit.{Circuit}
use Rattle.hp_circuit.specs.Machines as circuit
use Rattle.hp_circuit.specs.declared.error.CircuitErr.{CircuitErr}
use Rattle.hp_circuit.specs.declared.error.CircuitErr.TheVariants as circuit_error
use Rattle.hp_drawing.specs.DrawnNodes.{drawn_node}
use Rattle.hp_drawing.specs.Seen.{IsOf}
use Rattle.hp_drawing.specs.Told.{told_of}
use Rattle.hp_names.specs.Rules.{WellNamed}
use Rattle.hp_tree.specs.declared.program.Item.TheVariants.{NodeItem}
use Rattle.hp_abstract.specs.declared.error.AbsErr.{AbsErr}
use Rattle.hp_abstract.specs.declared.error.AbsErr.TheVariants as error

-- the controllable variables among slots, with their types
abbrev pub controls_among : List Slot → List FreePlace
controls_among [] = []
controls_among (control p t ∷ ss) = (p, t) ∷ controls_among ss
controls_among (s ∷ ss) = controls_among ss

-- how many bits the values of places have
abbrev pub type_width : List TypeDecl → FreePlace → ℕ
type_width types p = width_of (shape_of types p.1)

abbrev pub widths_at : List TypeDecl → List FreePlace → List ℕ
widths_at types ps = map (type_width types) ps

-- what is preferred of each bit: true of a truth value, and of a constructor the code of the first one
abbrev pub preferred_bits : Shape → Bits
preferred_bits truth = true ∷ []
preferred_bits mark = []
preferred_bits (cons t many) = replicate (width many) false

abbrev pub preferred_at : List TypeDecl → List FreePlace → Bits
preferred_at types [] = []
preferred_at types (p ∷ ps) = preferred_bits (shape_of types p.1) ++ preferred_at types ps

-- The variables of a machine are the bits of the slots of a node's abstraction: of its registers, of its controllable variables, each with its width and what is preferred, and of all that is given besides.
pub record HasVariables (types : List TypeDecl) (slots : List Slot) (registers given : List ℕ) (m : Machine) : Type 0 where
  pub many_registers : m.registers ≡ sum registers
  pub many_given : m.early + m.late ≡ sum given
  pub many_control : m.control ≡ sum m.widths
  pub widths : m.widths ≡ widths_at types (controls_among slots)
  pub prefer : m.prefer ≡ preferred_at types (controls_among slots)

-- so in a node of a program
abbrev pub HasSlots : List Item → Node → Machine → Type 0
HasSlots program n m =
    HasVariables (types_of program) (slots_of_node program n) (map (λ r. width_of r.1) (registers program n)) (widths_at (types_of program) (free_places program n)) m

-- It is the machine of the circuit that is drawn of the node.
abbrev pub IsDrawn : List Item → Node → Machine → Type 0
IsDrawn program n m = (c : Circuit) × (IsOf c (drawn_node (told_of program) n) × circuit.IsMachineOf n.name c m)

-- What is known of it: it has the node's name, its counts are within the limits, and where contracts call nothing, as in each judged program, its variables are those of the node. Where names are well used, too, its registers hold at first what memory has of no history. Its gates are those of the circuit that is drawn of the node; that this has the wires of the node's abstraction is not said here.
pub record IsMachineOf (program : List Item) (n : Node) (m : Machine) : Type 0 where
  pub named : m.name ≡ n.name
  pub registers : m.registers ≤ most Registers
  pub early : m.early ≤ most Early
  pub control : m.control ≤ most Control
  pub late : m.late ≤ most Late
  pub variables : ContractsCallNothing program → HasSlots program n m
  pub start : ContractsCallNothing program → WellNamed program → Contains program (NodeItem n) → m.init ≡ bits program n []
  pub drawn : IsDrawn program n m

-- The circuit that is drawn of the node has no machine, for this reason.
abbrev pub LacksMachine : List Item → Node → CircuitErr → Type 0
LacksMachine program n e = (c : Circuit) × (IsOf c (drawn_node (told_of program) n) × circuit.HasNoMachine c e)

-- the assumption of a contract, if it has one
abbrev pub assumption_by : Option Contract → Option Expr
assumption_by None = None
assumption_by (Some c) = c.assume

abbrev pub assumption_of : Node → Option Expr
assumption_of n = assumption_by n.contract

-- the node's contract has an assumption, which begins at the place
abbrev pub AssumesAt : Node → Span → Type 0
AssumesAt n span = (e : Expr) × ((assumption_of n ≡ Some e) × (span_of e ≡ span))

-- Why there is none: the wire of what the node assumes reads a controllable variable in the circuit that is drawn of it, or this passes a limit on bits, or it is not built. This is so where it is no circuit, and where the wire reads one though the node assumes nothing. Nothing is said of want of memory.
abbrev pub IsRefused : List Item → Node → AbsErr → Type 0
IsRefused program n (error.Assume span) = LacksMachine program n circuit_error.Steered × AssumesAt n span
IsRefused program n (error.Limit limit) = LacksMachine program n (circuit_error.Limit limit)
IsRefused program n error.NotBuilt = LacksMachine program n circuit_error.NoCircuit ⊎ (LacksMachine program n circuit_error.Steered × (assumption_of n ≡ None))
IsRefused program n error.OutOfMemory = ⊤
