-- The game of a contract on its abstraction, Nil and all, where each given value is of its type, also where it is not looked at.
-- Source: own. It stands between the game of the contract, of whose given values those alone that are looked at are of their types, and the game on histories without Nil.
use Rattle.std.specs.Prelude.{ℕ, zero, suc, ◌≡◌, ◌⊎◌, ⊤, IsTrue, IsFalse, List, [], ◌∷◌}
use Rattle.hp_base.specs.declared.value.Value.{Value}
use Rattle.hp_tree.specs.declared.program.Item.{Item}
use Rattle.hp_tree.specs.Programs.{Node}
use Rattle.hp_tree.specs.Instant.{Place, Instant, Past}
use Rattle.hp_tree.specs.Meaning.{types_of}
use Rattle.hp_meaning.specs.Causal.Abstract.{abstract_meaning}
use Rattle.hp_meaning.specs.Causal.Steering.{steered_by}
use Rattle.hp_meaning.specs.Contract.Duties.{hypothesis, duty}
use Rattle.hp_meaning.specs.Contract.FreePlaces.{IsEarly}
use Rattle.hp_meaning.specs.Contract.Game.{Choice, IsChoiceOf, at_controls}
use Rattle.hp_meaning.specs.Contract.Slots.{slots_of_node, registers, zero_at}
use Rattle.law_games.specs.Wires.WiredNodes.{FillsNode}
use Rattle.law_games.specs.Wires.WiredCallees.{callee_wires}
use Rattle.law_games.specs.Wiretyped.Typed.{AreWires}
use Rattle.law_games.specs.Wiretyped.Laws.{GivenFits}
use Rattle.law_games.specs.Mirror.Mirrored.{given_with}
use Rattle.law_games.specs.Mirror.Memories.{SlotsFit}

-- an abstract instant after a history with these inputs, early values and choice, and some late values. What is given at a `pre`, which the abstraction does not look at, is what its register holds at the start.
pub record IsFitting (program earlier : List Item) (n : Node) (history : Past) (inputs : List Value) (early : Instant) (c : Choice) (now : Instant) : Type 0 where
  pub others : Instant
  pub values : AreWires (types_of program) n.inputs inputs
  pub given : GivenFits (types_of program) earlier n (steered_by others (at_controls c))
  pub fits : SlotsFit (types_of program) (slots_of_node program n) (given_with inputs others c)
  pub fills : FillsNode (types_of program) (callee_wires (types_of program) earlier) n (zero_at (registers program n)) (steered_by others (at_controls c))
  pub agrees : (p : Place) → IsEarly program n p → others p ≡ early p
  pub meets : (p : Place) → now p ≡ abstract_meaning program n.name inputs (record { past = history; free = steered_by others (at_controls c) }) now p

-- a history of such instants
abbrev pub AllFitting : List Item → List Item → Node → Past → Type 0
AllFitting program earlier n [] = ⊤
AllFitting program earlier n (now ∷ history) = AllFitting program earlier n history × ((inputs : List Value) × (early : Instant) × (c : Choice) × IsChoiceOf program n c × IsFitting program earlier n history inputs early c now)

-- A violation is forced within so many instants, and none ever is.
abbrev pub FittingForced : List Item → List Item → Node → ℕ → Past → Type 0
FittingForced program earlier n zero history = ⊥
FittingForced program earlier n (suc k) history =
    (inputs : List Value) × (early : Instant)
    × ((c : Choice) → IsChoiceOf program n c → (now : Instant) × IsFitting program earlier n history inputs early c now × IsTrue (hypothesis n now) × (IsFalse (duty n now) ⊎ FittingForced program earlier n k (now ∷ history)))

abbrev pub FittingSafe : List Item → List Item → Node → Past → Type 0
FittingSafe program earlier n history = (k : ℕ) → FittingForced program earlier n k history → ⊥
