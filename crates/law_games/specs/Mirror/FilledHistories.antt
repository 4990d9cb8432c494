-- The game of a contract on histories without Nil, and that it is the game on a machine that mirrors the node.
-- Source: own. The abstraction is read so that a `pre` without a past gives what its register holds at the start, zeros; each given value is of its type, also where it is not taken.
use Rattle.std.specs.Prelude.{ℕ, zero, suc, ◌≡◌, ◌↔◌, ◌⊎◌, ⊤, IsTrue, IsFalse, List, [], ◌∷◌}
use Rattle.hp_base.specs.declared.value.Value.{Value}
use Rattle.hp_tree.specs.declared.program.Item.{Item}
use Rattle.hp_tree.specs.Programs.{Node}
use Rattle.hp_tree.specs.Instant.{Place, Instant, Past}
use Rattle.hp_tree.specs.Meaning.{types_of, node}
use Rattle.hp_meaning.specs.Causal.Steering.{steered_by}
use Rattle.hp_boolx.specs.Game.{Forced as ForcedOn, Safe as SafeOn}
use Rattle.hp_boolx.specs.Machine.{Machine, game}
use Rattle.hp_meaning.specs.Contract.Duties.{hypothesis, duty}
use Rattle.hp_meaning.specs.Contract.FreePlaces.{IsEarly}
use Rattle.hp_meaning.specs.Contract.Game.{Choice, IsChoiceOf, at_controls}
use Rattle.hp_meaning.specs.Contract.Memory.{memory, bits}
use Rattle.hp_meaning.specs.Contract.Slots.{slots_of_node, registers, zero_at}
use Rattle.law_values.specs.Valued.Values.{Classing}
use Rattle.law_games.specs.Wires.Wired.{filled_abstraction}
use Rattle.law_games.specs.Wires.WiredNodes.{FillsNode}
use Rattle.law_games.specs.Wires.WiredCallees.{filled_callees, callee_wires}
use Rattle.law_games.specs.Wiretyped.Typed.{AreWires}
use Rattle.law_games.specs.Wiretyped.Laws.{InShape, GivenFits}
use Rattle.law_games.specs.Mirror.Mirrored.{given_with, Mirrors}
use Rattle.law_games.specs.Mirror.Memories.{SlotsFit, IsSettled}

-- what the places of a node hold after a history, where nothing is Nil
abbrev pub filled_instant : List Item → List Item → Node → List Value → Past → Instant → Instant → Instant
filled_instant program earlier n inputs history given now = node (types_of program) filled_abstraction (filled_callees (types_of program) earlier) n inputs (record { past = history; free = given }) now

-- an instant after a history with these inputs, early values and choice, and some late values
pub record IsFilled (program earlier : List Item) (n : Node) (history : Past) (inputs : List Value) (early : Instant) (c : Choice) (now : Instant) : Type 0 where
  pub others : Instant
  pub values : AreWires (types_of program) n.inputs inputs
  pub given : GivenFits (types_of program) earlier n (steered_by others (at_controls c))
  pub fits : SlotsFit (types_of program) (slots_of_node program n) (given_with inputs others c)
  pub fills : FillsNode (types_of program) (callee_wires (types_of program) earlier) n (zero_at (registers program n)) (steered_by others (at_controls c))
  pub agrees : (p : Place) → IsEarly program n p → others p ≡ early p
  pub meets : (p : Place) → now p ≡ filled_instant program earlier n inputs history (steered_by others (at_controls c)) now p

-- a history of such instants
abbrev pub AllFilled : List Item → List Item → Node → Past → Type 0
AllFilled program earlier n [] = ⊤
AllFilled program earlier n (now ∷ history) = AllFilled program earlier n history × ((inputs : List Value) × (early : Instant) × (c : Choice) × IsChoiceOf program n c × IsFilled program earlier n history inputs early c now)

-- A violation is forced within so many instants, and none ever is.
abbrev pub FilledForced : List Item → List Item → Node → ℕ → Past → Type 0
FilledForced program earlier n zero history = ⊥
FilledForced program earlier n (suc k) history =
    (inputs : List Value) × (early : Instant)
    × ((c : Choice) → IsChoiceOf program n c → (now : Instant) × IsFilled program earlier n history inputs early c now × IsTrue (hypothesis n now) × (IsFalse (duty n now) ⊎ FilledForced program earlier n k (now ∷ history)))

abbrev pub FilledSafe : List Item → List Item → Node → Past → Type 0
FilledSafe program earlier n history = (k : ℕ) → FilledForced program earlier n k history → ⊥

-- ---- the laws, where the registers are in shape at first

-- Where a machine mirrors the node, what is forced after such a history is forced from the bits that it leaves, within as many instants.
abbrev pub SameFilledGameLaw : Type 0
SameFilledGameLaw =
    (program : List Item) (class : Classing) (earlier : List Item) (n : Node) (m : Machine) → IsSettled program class earlier n → Mirrors program earlier n m
    → InShape (types_of program) earlier n (zero_at (registers program n)) (memory program n [])
    → (k : ℕ) (history : Past) → AllFilled program earlier n history
    → FilledForced program earlier n k history ↔ ForcedOn (game m) k (bits program n history)

-- So nothing is ever forced at first exactly where the machine is safe at first.
abbrev pub SameFilledSafeLaw : Type 0
SameFilledSafeLaw =
    (program : List Item) (class : Classing) (earlier : List Item) (n : Node) (m : Machine) → IsSettled program class earlier n → Mirrors program earlier n m
    → InShape (types_of program) earlier n (zero_at (registers program n)) (memory program n [])
    → FilledSafe program earlier n [] ↔ SafeOn (game m) m.init
