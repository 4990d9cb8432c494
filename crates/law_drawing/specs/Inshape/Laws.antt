-- Typed wires of a node are read with values in the shapes of its slots: each register holds a value of its shape, and what is given at each input, controllable variable and free place is of its type. So the slots have the numbers of these values, and registers that begin with zeros have the number zero.
-- Source: own. A circuit that is drawn of the node is held against its wires at these numbers.
use Rattle.std.specs.Prelude.{ℕ, ◌≡◌, List}
use Rattle.hp_base.specs.declared.value.Value.{Value}
use Rattle.hp_tree.specs.declared.program.Item.{Item}
use Rattle.hp_tree.specs.Instant.{Place, Instant}
use Rattle.hp_tree.specs.Meaning.{types_of}
use Rattle.hp_tree.specs.Programs.{Node}
use Rattle.law_values.specs.Valued.Values.{scope_behind}
use Rattle.hp_meaning.specs.Contract.Game.{Choice}
use Rattle.hp_meaning.specs.Contract.Memory.{number_in}
use Rattle.hp_meaning.specs.Contract.Slots.{Register, slots_of_node, zero_at}
use Rattle.hp_circuit.specs.Numbers.{number}
use Rattle.hp_drawing.specs.Told.{told_of}
use Rattle.hp_circuit.specs.Placed.Valuations.{code_at}
use Rattle.law_games.specs.ReadyGames.Laws.{Stands, IsInOrder}
use Rattle.law_games.specs.Mirror.Mirrored.{given_with, AreWiresOf}
use Rattle.law_drawing.specs.Carrying.Drawable.{NodeDrawable}
use Rattle.law_drawing.specs.Carrying.Drawing.{AreHeld}
use Rattle.law_drawing.specs.Carrying.Nodes.{EarlierDrawable}
use Rattle.law_drawing.specs.Mirroring.Codes.{codes_for, AreInShape}

-- A node of a ready program, which can be drawn, as those behind it can.
pub record IsReadyNode (program after : List Item) (ranks : List (List ℕ)) (earlier : List Item) (n : Node) : Type 0 where
  pub order : IsInOrder program after ranks
  pub stands : Stands after earlier n
  pub drawable : NodeDrawable (scope_behind earlier) n
  pub earlier_drawable : EarlierDrawable (types_of after) (told_of after) earlier

-- Its memory and what is given are in shape, where typed wires are read with them.
abbrev pub NodeShapeLaw : Type 0
NodeShapeLaw =
    (program after : List Item) (ranks : List (List ℕ)) (earlier : List Item) (n : Node) → IsReadyNode program after ranks earlier n
    → (memory : Instant) (inputs : List Value) (others : Instant) (choice : Choice) (now : Instant) → AreWiresOf after earlier n memory inputs others choice now
    → AreInShape (types_of after) memory (given_with inputs others choice) (slots_of_node after n)

-- the number of a slot, by the codes of a memory and of what is given
abbrev pub slot_number : List Item → Node → Instant → Instant → ℕ → ℕ
slot_number program n memory given i = number (code_at (codes_for (types_of program) memory given (slots_of_node program n)) i)

-- So its slots have the numbers of its memory and of what is given.
abbrev pub NodeNumbersLaw : Type 0
NodeNumbersLaw =
    (program after : List Item) (ranks : List (List ℕ)) (earlier : List Item) (n : Node) → IsReadyNode program after ranks earlier n
    → (memory : Instant) (inputs : List Value) (others : Instant) (choice : Choice) (now : Instant) → AreWiresOf after earlier n memory inputs others choice now
    → AreHeld (slot_number after n memory (given_with inputs others choice)) memory (given_with inputs others choice) (slots_of_node after n) 0

-- Zeros have the number zero, whatever the registers are.
abbrev pub ZerosLaw : Type 0
ZerosLaw = (rs : List Register) (p : Place) → number_in (zero_at rs p) ≡ 0
