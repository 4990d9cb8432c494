-- When a circuit carries a node, and that its machine then mirrors the node.
-- Source: own. It is said of any circuit; what is drawn of a node is one.
use Rattle.std.specs.Prelude.{ℕ, ◌≡◌, ◌↔◌, ⊤, Bool, IsTrue, List, [], ◌∷◌}
use Rattle.hp_base.specs.declared.value.Value.{Value}
use Rattle.hp_tree.specs.declared.program.Item.{Item}
use Rattle.hp_tree.specs.Instant.{Place, Instant}
use Rattle.hp_tree.specs.Meaning.{types_of}
use Rattle.hp_tree.specs.Programs.{Node}
use Rattle.hp_boolx.specs.Game.{Forced as ForcedOn, Safe as SafeOn}
use Rattle.hp_boolx.specs.Machine.{Machine, game}
use Rattle.hp_circuit.specs.declared.circuit.Circuit.{Circuit}
use Rattle.hp_circuit.specs.declared.circuit.Role.{Role}
use Rattle.hp_circuit.specs.declared.circuit.Role.TheVariants as role
use Rattle.hp_circuit.specs.declared.circuit.Slot.{Slot}
use Rattle.hp_circuit.specs.Machines.{IsMachineOf}
use Rattle.hp_meaning.specs.Contract.FreePlaces.{IsFree, IsEarly}
use Rattle.hp_meaning.specs.Contract.Game.{Choice}
use Rattle.hp_meaning.specs.Contract.Memory.{number_in, memory}
use Rattle.hp_meaning.specs.Contract.Slots as slots
use Rattle.hp_meaning.specs.Contract.Slots.{register, free, input, control, slots_of_node, free_places}
use Rattle.hp_names.specs.Rules.{WellNamed}
use Rattle.law_games.specs.ReadyGames.FittingHistories.{FittingForced, FittingSafe}
use Rattle.law_games.specs.ReadyGames.Laws.{Stands, IsInOrder}
use Rattle.law_games.specs.Wires.Laws.{instant_of, memory_behind, is_called, hypothesis_on, duty_on}
use Rattle.law_games.specs.Mirror.Mirrored.{given_with, read_with, AreWiresOf, Mirrors}
use Rattle.law_drawing.specs.Mirroring.Codes.{Begins, AreSlotsOf, AreNumbered}
use Rattle.law_drawing.specs.Mirroring.Gates.{IsSolved}

-- a register holds this number at first
abbrev pub IsBegun : ℕ → Role → Type 0
IsBegun k (role.Register first next) = first ≡ k
IsBegun k r = ⊥

abbrev pub Registers : ℕ → Slot → Type 0
Registers k c = IsBegun k c.role

abbrev pub any_slot : Slot → Type 0
any_slot c = ⊤

-- Registers hold at first what a memory holds.
abbrev pub AreBegun : Instant → List slots.Slot → List Slot → Type 0
AreBegun first [] cs = ⊤
AreBegun first (register p slots.truth ∷ ss) cs = Begins (Registers (number_in (first p))) (AreBegun first ss) cs
AreBegun first (register p slots.mark ∷ ss) cs = AreBegun first ss cs
AreBegun first (register p (slots.cons t m) ∷ ss) cs = Begins (Registers (number_in (first p))) (AreBegun first ss) cs
AreBegun first (free p t ∷ ss) cs = Begins any_slot (AreBegun first ss) cs
AreBegun first (input p t ∷ ss) cs = Begins any_slot (AreBegun first ss) cs
AreBegun first (control p t ∷ ss) cs = Begins any_slot (AreBegun first ss) cs

-- what is supposed and owed at an instant, where `now` are the wires of a node
abbrev pub supposed_at : List Item → List Item → Node → Instant → List Value → Instant → Choice → Instant → Bool
supposed_at program earlier n memory inputs others c now = hypothesis_on (is_called (instant_of (types_of program) earlier n inputs (read_with program n memory others c) now)) n now

abbrev pub owed_at : List Item → List Item → Node → Instant → List Value → Instant → Choice → Instant → Bool
owed_at program earlier n memory inputs others c now = duty_on (is_called (instant_of (types_of program) earlier n inputs (read_with program n memory others c) now)) n now

abbrev pub next_memory : List Item → List Item → Node → Instant → List Value → Instant → Choice → Instant → Instant
next_memory program earlier n memory inputs others c now = memory_behind (types_of program) earlier n inputs (read_with program n memory others c) now

-- A circuit carries a node: it has its slots, in order; registers hold at first what the node remembers of no history; and wherever its wires are typed some numbers solve the circuit, by which registers take
-- the memory behind the instant, and hypothesis and duty are the node's.
pub record Carries (program earlier : List Item) (n : Node) (c : Circuit) (steered : List Bool) (early : Place → Bool) : Type 0 where
  pub slots : AreSlotsOf (types_of program) early steered (slots_of_node program n) c.slots.items
  pub begun : AreBegun (memory program n []) (slots_of_node program n) c.slots.items
  pub solved :
      (memory : Instant) (inputs : List Value) (others : Instant) (choice : Choice) (now : Instant) → AreWiresOf program earlier n memory inputs others choice now
      → IsSolved (types_of program) (slots_of_node program n) c memory (given_with inputs others choice) (next_memory program earlier n memory inputs others choice now)
      (supposed_at program earlier n memory inputs others choice now) (owed_at program earlier n memory inputs others choice now)

-- exactly those free places count as early that stand in the node itself on the base clock and read no controllable variable
abbrev pub AreEarly : List Item → Node → (Place → Bool) → Type 0
AreEarly program n early = (p : Place) → IsFree (free_places program n) p → IsTrue (early p) ↔ IsEarly program n p

-- The machine of a circuit that carries a node mirrors it.
abbrev pub CarriedLaw : Type 0
CarriedLaw =
    (name : List ℕ) (c : Circuit) (m : Machine) (made : IsMachineOf name c m) (program earlier : List Item) (n : Node) (early : Place → Bool) → AreNumbered (types_of program) → AreEarly program n early
    → Carries program earlier n c made.steered early
    → Mirrors program earlier n m

-- Where names are well used the constructors of each type are numbered.
abbrev pub NumberedLaw : Type 0
NumberedLaw = (program : List Item) → WellNamed program → AreNumbered (types_of program)

-- So for a node of a ready program and a circuit that carries it: what is forced at first on the node's abstraction, where each given value is of its type, is forced on the circuit's machine,
abbrev pub CarriedGameLaw : Type 0
CarriedGameLaw =
    (program after : List Item) (ranks : List (List ℕ)) → IsInOrder program after ranks → (earlier : List Item) (n : Node) → Stands after earlier n
    → (name : List ℕ) (c : Circuit) (m : Machine) (made : IsMachineOf name c m) (early : Place → Bool) → AreEarly after n early → Carries after earlier n c made.steered early
    → (k : ℕ) → FittingForced after earlier n k [] ↔ ForcedOn (game m) k m.init

-- and nothing ever is exactly where the machine is safe.
abbrev pub CarriedSafeLaw : Type 0
CarriedSafeLaw =
    (program after : List Item) (ranks : List (List ℕ)) → IsInOrder program after ranks → (earlier : List Item) (n : Node) → Stands after earlier n
    → (name : List ℕ) (c : Circuit) (m : Machine) (made : IsMachineOf name c m) (early : Place → Bool) → AreEarly after n early → Carries after earlier n c made.steered early
    → FittingSafe after earlier n [] ↔ SafeOn (game m) m.init
