-- The choices of a machine that mirrors a node of a ready program are those of the node's contract.
-- Source: own.
use Rattle.std.specs.Prelude.{◌≡◌, ◌↔◌, Bool, List, map, length}
use Rattle.hp_base.specs.declared.value.Value.{Value}
use Rattle.hp_tree.specs.declared.program.Item.{Item}
use Rattle.hp_tree.specs.Operators.{marked}
use Rattle.hp_tree.specs.Programs.{Node}
use Rattle.hp_tree.specs.Instant.{Instant, Past}
use Rattle.hp_tree.specs.Meaning.{types_of}
use Rattle.hp_boolx.specs.Game.{Permitted as PermittedOn}
use Rattle.hp_boolx.specs.Machine.{Machine, game}
use Rattle.hp_boolx.specs.Solved.{IsChoice}
use Rattle.hp_meaning.specs.Contract.FreePlaces.{InputsFit}
use Rattle.hp_meaning.specs.Contract.Game.{Choice, IsChoiceOf, Permitted, IsChosen}
use Rattle.hp_meaning.specs.Contract.Memory.{bits}
use Rattle.hp_meaning.specs.Contract.Slots.{slots_of_node}
use Rattle.law_values.specs.Filled.Under.{PastsUnder}
use Rattle.law_games.specs.Mirror.Choices.{choice_bits, BitsInOrder}
use Rattle.law_games.specs.Mirror.FilledHistories.{AllFilled}
use Rattle.law_games.specs.Mirror.Memories.{SlotsFit}
use Rattle.law_games.specs.Mirror.Mirrored.{early_among, codes_at, given_with, Mirrors}
use Rattle.law_games.specs.ReadyGames.FittingHistories.{AllFitting}
use Rattle.law_games.specs.Forced.Laws.{OfReadyNodes}

-- What the machine prefers of bits is what is preferred of choices, each of which has bits of its own.
abbrev pub PreferredLaw : Type 0
PreferredLaw = OfReadyNodes (λ after earlier n. (m : Machine) → Mirrors after earlier n m → BitsInOrder after n m.prefer × (length m.prefer ≡ m.control))

-- the bits of inputs and early values
abbrev pub early_bits : (program earlier : List Item) (n : Node) (m : Machine) → Mirrors program earlier n m → List Value → Instant → Choice → List Bool
early_bits program earlier n m M inputs early c = codes_at (types_of program) (early_among M.is_early (slots_of_node program n)) (given_with (map marked inputs) early c)

-- So after a history a choice is permitted exactly where its bits are, and it is the greatest permitted one exactly where they are the machine's choice: at the bits that a history without Nil leaves, which has the same value
-- wherever that of the first one is not Nil.
abbrev pub ChosenLaw : Type 0
ChosenLaw =
    OfReadyNodes
    (λ after earlier n.
    (m : Machine) (M : Mirrors after earlier n m) (history : Past) → AllFitting after earlier n history
    → (other : Past) × (AllFilled after earlier n other × (PastsUnder history other
    × ((inputs : List Value) (early : Instant) → InputsFit (types_of after) n.inputs inputs → ((d : Choice) → SlotsFit (types_of after) (slots_of_node after n) (given_with (map marked inputs) early d))
    → (c : Choice) → IsChoiceOf after n c
    → (Permitted after n history inputs early c ↔ PermittedOn (game m) (bits after n other) (early_bits after earlier n m M inputs early c) (choice_bits after n c))
    × (IsChosen after n history inputs early c ↔ IsChoice (game m) (bits after n other) (early_bits after earlier n m M inputs early c) (choice_bits after n c))))))
