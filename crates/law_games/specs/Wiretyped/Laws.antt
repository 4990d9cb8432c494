-- The laws of typed wires. Items stand with the last one first: each node may call those behind it.
use Rattle.std.specs.Prelude.{◌≡◌, ℕ, List, [], ◌∷◌, reverse, Some}
use Rattle.hp_base.specs.declared.value.Value.{Value}
use Rattle.hp_tree.specs.declared.program.Item.{Item}
use Rattle.hp_tree.specs.declared.program.Item.TheVariants.{NodeItem}
use Rattle.hp_tree.specs.Programs.{TypeDecl, Node}
use Rattle.hp_tree.specs.Instant.{Instant, Past}
use Rattle.hp_tree.specs.Meaning.{types_of, node_among}
use Rattle.hp_meaning.specs.Contract.Memory.{remembers_node}
use Rattle.law_values.specs.Valued.Values.{Classing, AreAccepted, scope_behind}
use Rattle.law_games.specs.Wires.Wired.{Held}
use Rattle.law_games.specs.Wires.WiredNodes.{remembers_in, wired_node, next_node, SoundNode, FillsNode}
use Rattle.law_games.specs.Wires.WiredCallees.{callee_wires}
use Rattle.law_games.specs.Wires.Laws.{IsWiring, held_after, instant_of}
use Rattle.law_games.specs.Wiretyped.Typed.{AreWires, NodeTyped}
use Rattle.law_games.specs.Wiretyped.Kept.{NodeKept, NodeGiven}
use Rattle.law_games.specs.Wiretyped.Callees.{CalleeTyped, CalleeKept, CalleeGiven}

-- of a node behind some items: its wires are typed, its registers in shape, and the given values fit
abbrev pub WiresTyped : List TypeDecl → List Item → Node → Instant → Type 0
WiresTyped types earlier n now = NodeTyped types (CalleeTyped types earlier) (scope_behind earlier) n now

abbrev pub InShape : List TypeDecl → List Item → Node → Instant → Instant → Type 0
InShape types earlier n start mem = NodeKept types (CalleeKept types earlier) (scope_behind earlier) n start mem

abbrev pub GivenFits : List TypeDecl → List Item → Node → Instant → Type 0
GivenFits types earlier n free = NodeGiven types (CalleeGiven types earlier) (scope_behind earlier) n free

-- what typed wires are read with in an accepted program
pub record IsRead (types : List TypeDecl) (class : Classing) (earlier : List Item) (n : Node) (inputs : List Value) (m : Held) : Type 0 where
  pub accepted : AreAccepted types class (NodeItem n ∷ earlier)
  pub values : AreWires types n.inputs inputs
  pub shape : InShape types earlier n m.start m.memory
  pub given : GivenFits types earlier n m.free

-- Circuits keep types: where all wires are typed, so is what each gate gives of them.
abbrev pub TypedLaw : Type 0
TypedLaw =
    (types : List TypeDecl) (class : Classing) (earlier : List Item) (n : Node) (inputs : List Value) (m : Held) (now : Instant)
    → IsRead types class earlier n inputs m → WiresTyped types earlier n now → WiresTyped types earlier n (wired_node types (callee_wires types earlier) n inputs m now)

-- Typed wires are sound.
abbrev pub SoundLaw : Type 0
SoundLaw =
    (types : List TypeDecl) (class : Classing) (earlier : List Item) (n : Node) (inputs : List Value) (m : Held) (now : Instant)
    → IsRead types class earlier n inputs m → WiresTyped types earlier n now → SoundNode types (callee_wires types earlier) n inputs m now

-- The next memory is in shape,
abbrev pub ShapeLaw : Type 0
ShapeLaw =
    (types : List TypeDecl) (class : Classing) (earlier : List Item) (n : Node) (inputs : List Value) (m : Held) (now : Instant)
    → IsRead types class earlier n inputs m → WiresTyped types earlier n now → InShape types earlier n m.start (next_node types (callee_wires types earlier) n inputs m now)

-- and so is the memory before the first instant.
abbrev pub StartLaw : Type 0
StartLaw =
    (types : List TypeDecl) (class : Classing) (earlier : List Item) (n : Node) (start mem : Instant)
    → AreAccepted types class (NodeItem n ∷ earlier) → InShape types earlier n start mem → InShape types earlier n start (remembers_in types (callee_wires types earlier) n start [])

-- So typed wires that solve the circuits after a history are its wires, and the memory behind them, which the longer history leaves, is in shape.
abbrev pub WiringLaw : Type 0
WiringLaw =
    (types : List TypeDecl) (class : Classing) (earlier : List Item) (n : Node) (inputs : List Value) (start free : Instant) (history : Past) (now : Instant)
    → IsRead types class earlier n inputs (held_after types earlier n start free history) → WiresTyped types earlier n now
    → FillsNode types (callee_wires types earlier) n start free
    → now ≡ wired_node types (callee_wires types earlier) n inputs (held_after types earlier n start free history) now
    → IsWiring types earlier n inputs start free history now
    × InShape types earlier n start (remembers_in types (callee_wires types earlier) n start (instant_of types earlier n inputs (held_after types earlier n start free history) now ∷ history))

-- In a program in which each node is found as it is found behind such a node, its memory is the memory of contracts.
abbrev pub MemoryLaw : Type 0
MemoryLaw =
    (program : List Item) (class : Classing) (earlier : List Item) (n : Node) (start : Instant) (history : Past)
    → AreAccepted (types_of program) class (NodeItem n ∷ earlier)
    → ((f : List ℕ) (k : Node) → node_among earlier f ≡ Some k → node_among (reverse program) f ≡ Some k)
    → remembers_in (types_of program) (callee_wires (types_of program) earlier) n start history ≡ remembers_node program n start history
