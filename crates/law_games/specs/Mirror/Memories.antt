-- The game on what a node remembers: a state is a memory, and an instant of the game is the wires of the node there.
-- Source: own. It stands between the game of a contract, whose states are histories, and the game on a Boolean machine, whose states are bits.
use Rattle.std.specs.Prelude.{ℕ, zero, suc, ◌≡◌, ◌↔◌, ◌⊎◌, ⊤, Bool, IsTrue, IsFalse, List, [], ◌∷◌, reverse, Some}
use Rattle.hp_base.specs.declared.value.Value.{Value}
use Rattle.hp_tree.specs.declared.program.Item.{Item}
use Rattle.hp_tree.specs.declared.program.Item.TheVariants.{NodeItem}
use Rattle.hp_tree.specs.Blocks.{Decl}
use Rattle.hp_tree.specs.Programs.{TypeDecl, Node}
use Rattle.hp_tree.specs.Instant.{Place, Instant}
use Rattle.hp_tree.specs.Meaning.{declares, types_of, node_among}
use Rattle.hp_tree.specs.Values.{IsOf}
use Rattle.hp_meaning.specs.Causal.Causality.{Ranked, IsRanked}
use Rattle.hp_meaning.specs.Causal.Steering.{steered_by}
use Rattle.hp_boolx.specs.Game.{Forced as ForcedOn, Safe as SafeOn}
use Rattle.hp_boolx.specs.Machine.{Machine, game}
use Rattle.hp_meaning.specs.Contract.Duties.{hypothesis, duty}
use Rattle.hp_meaning.specs.Contract.FreePlaces.{IsEarly}
use Rattle.hp_meaning.specs.Contract.Game.{Choice, IsChoiceOf, at_controls, preferred}
use Rattle.hp_meaning.specs.Contract.Memory.{memory, bits_in}
use Rattle.hp_meaning.specs.Contract.Slots.{Slot, free, input, slots_of_node, registers, zero_at}
use Rattle.law_values.specs.Valued.Values.{Classing, AreAccepted}
use Rattle.law_games.specs.Wires.Wired.{Held}
use Rattle.law_games.specs.Wires.WiredNodes.{wired_node, FillsNode}
use Rattle.law_games.specs.Wires.WiredCallees.{callee_wires}
use Rattle.law_games.specs.Wires.Laws.{instant_of, memory_behind}
use Rattle.law_games.specs.Wiretyped.Laws.{IsRead, WiresTyped, InShape}
use Rattle.law_games.specs.Mirror.Mirrored.{given_with, read_with, AreWiresOf, Mirrors}

-- ---- the game

-- Inputs and free places have values of their types.
abbrev pub SlotsFit : List TypeDecl → List Slot → Instant → Type 0
SlotsFit types [] i = ⊤
SlotsFit types (input p t ∷ slots) i = IsOf types t (i p) × SlotsFit types slots i
SlotsFit types (free p t ∷ slots) i = IsOf types t (i p) × SlotsFit types slots i
SlotsFit types (slot ∷ slots) i = SlotsFit types slots i

-- an instant at a memory: typed wires, read with values of their types, of which the early ones are given ones. What is given at a `pre`, which wires do not look at, is what its register holds at the start.
pub record IsInstant (program earlier : List Item) (n : Node) (memory : Instant) (inputs : List Value) (early : Instant) (c : Choice) (others now : Instant) : Type 0 where
  pub wires : AreWiresOf program earlier n memory inputs others c now
  pub fits : SlotsFit (types_of program) (slots_of_node program n) (given_with inputs others c)
  pub fills : FillsNode (types_of program) (callee_wires (types_of program) earlier) n (zero_at (registers program n)) (steered_by others (at_controls c))
  pub agrees : (p : Place) → IsEarly program n p → others p ≡ early p

-- what it supposes, owes and leaves
abbrev pub supposes : List Item → List Item → Node → Instant → List Value → Choice → Instant → Instant → Bool
supposes program earlier n memory inputs c others now = hypothesis n (instant_of (types_of program) earlier n inputs (read_with program n memory others c) now)

abbrev pub owes : List Item → List Item → Node → Instant → List Value → Choice → Instant → Instant → Bool
owes program earlier n memory inputs c others now = duty n (instant_of (types_of program) earlier n inputs (read_with program n memory others c) now)

abbrev pub leaves : List Item → List Item → Node → Instant → List Value → Choice → Instant → Instant → Instant
leaves program earlier n memory inputs c others now = memory_behind (types_of program) earlier n inputs (read_with program n memory others c) now

-- A violation is forced within so many instants: for some inputs and early values, whatever is chosen, by some late values.
abbrev pub ForcedFrom : List Item → List Item → Node → ℕ → Instant → Type 0
ForcedFrom program earlier n zero memory = ⊥
ForcedFrom program earlier n (suc k) memory =
    (inputs : List Value) × (early : Instant)
    × ((c : Choice) → IsChoiceOf program n c → (others : Instant) × (now : Instant) × IsInstant program earlier n memory inputs early c others now
    × IsTrue (supposes program earlier n memory inputs c others now) × (IsFalse (owes program earlier n memory inputs c others now) ⊎ ForcedFrom program earlier n k (leaves program earlier n memory inputs c others now)))

abbrev pub SafeFrom : List Item → List Item → Node → Instant → Type 0
SafeFrom program earlier n memory = (k : ℕ) → ForcedFrom program earlier n k memory → ⊥

-- ---- the laws

-- Declarations have names of their own.
abbrev pub AreApart : List Decl → Type 0
AreApart [] = ⊤
AreApart (d ∷ ds) = IsFalse (declares ds d.name) × AreApart ds

-- What is asked of a node of a program, and of those behind it, which it may call: they are accepted and ranked, wires that solve the circuits are typed, each called node is the one that the program has by this name,
-- its outputs have names of their own, and there is some choice.
pub record IsSettled (program : List Item) (class : Classing) (earlier : List Item) (n : Node) : Type 0 where
  pub accepted : AreAccepted (types_of program) class (NodeItem n ∷ earlier)
  pub ranked : Ranked n
  pub ranked_earlier : IsRanked earlier
  pub typed :
      (inputs : List Value) (m : Held) (now : Instant) → IsRead (types_of program) class earlier n inputs m → now ≡ wired_node (types_of program) (callee_wires (types_of program) earlier) n inputs m now
      → WiresTyped (types_of program) earlier n now
  pub found : (f : List ℕ) (k : Node) → node_among earlier f ≡ Some k → node_among (reverse program) f ≡ Some k
  pub apart : (f : List ℕ) (k : Node) → node_among (reverse program) f ≡ Some k → AreApart k.outputs
  pub some_choice : IsChoiceOf program n (preferred program n)

-- Where a machine mirrors the node, what is forced from a memory in shape is forced from its bits, within as many instants.
abbrev pub SameMemoryGameLaw : Type 0
SameMemoryGameLaw =
    (program : List Item) (class : Classing) (earlier : List Item) (n : Node) (m : Machine) → IsSettled program class earlier n → Mirrors program earlier n m
    → (k : ℕ) (memory : Instant) → InShape (types_of program) earlier n (zero_at (registers program n)) memory
    → ForcedFrom program earlier n k memory ↔ ForcedOn (game m) k (bits_in (registers program n) memory)

-- So what is safe is safe.
abbrev pub SameMemorySafeLaw : Type 0
SameMemorySafeLaw =
    (program : List Item) (class : Classing) (earlier : List Item) (n : Node) (m : Machine) → IsSettled program class earlier n → Mirrors program earlier n m
    → (memory : Instant) → InShape (types_of program) earlier n (zero_at (registers program n)) memory
    → SafeFrom program earlier n memory ↔ SafeOn (game m) (bits_in (registers program n) memory)

-- At first a machine holds the bits of the memory of no history.
abbrev pub SameMemoryAtFirstLaw : Type 0
SameMemoryAtFirstLaw =
    (program : List Item) (class : Classing) (earlier : List Item) (n : Node) (m : Machine) → IsSettled program class earlier n → Mirrors program earlier n m
    → InShape (types_of program) earlier n (zero_at (registers program n)) (memory program n [])
    → SafeFrom program earlier n (memory program n []) ↔ SafeOn (game m) m.init
