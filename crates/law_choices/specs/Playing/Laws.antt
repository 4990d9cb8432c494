-- Clocked equations that ask a machine for its choice choose the greatest permitted values.
-- Source: own.
use Rattle.std.specs.Prelude.{◌≡◌, List, [], ◌∷◌, length, map}
use Rattle.hp_base.specs.declared.value.Value.{Value}
use Rattle.hp_boolx.specs.Game.{joined}
use Rattle.hp_boolx.specs.Machine.{Machine, game}
use Rattle.hp_boolx.specs.Search.{Bits}
use Rattle.hp_tree.specs.declared.program.Item.{Item}
use Rattle.hp_tree.specs.Instant.{Instant, Past}
use Rattle.hp_tree.specs.Meaning.{types_of}
use Rattle.hp_tree.specs.Operators.{marked}
use Rattle.hp_tree.specs.Programs.{Node}
use Rattle.hp_tree.specs.Reaction.{controls_at}
use Rattle.hp_meaning.specs.Contract.Duties.{duty, hypothesis}
use Rattle.hp_meaning.specs.Contract.Forgetting.{erased, erase}
use Rattle.hp_meaning.specs.Contract.FreePlaces.{InputsFit}
use Rattle.hp_meaning.specs.Contract.Game.{Choice, IsChoiceOf, IsChosen}
use Rattle.hp_meaning.specs.Contract.Slots.{slots_of_node}
use Rattle.law_equations.specs.Meaning.Instants as flat
use Rattle.law_games.specs.Forced.Laws.{OfReadyNodes}
use Rattle.law_games.specs.Forced.Twins.{Plays}
use Rattle.law_games.specs.Mirror.Choices.{BitsInOrder, choice_bits}
use Rattle.law_games.specs.Mirror.Memories.{SlotsFit}
use Rattle.law_games.specs.Mirror.Mirrored.{Mirrors, codes_at, early_among, given_with}
use Rattle.hp_controller.specs.Steps.{Placing, AlwaysSteered, bits_of, control_places, register_places, state_after}
use Rattle.law_choices.specs.Playing.Given.{GiveSame}
use Rattle.law_choices.specs.Playing.Inputs.{GiveInputs, HasInputsAlone}

-- Where the equations steer and the game is given the same, the machine plays along with the game.
abbrev pub PlayingLaw : Type 0
PlayingLaw =
    (program earlier : List Item) (n : Node) (m : Machine) (M : Mirrors program earlier n m) (p : Placing) (instants : List flat.Instant) (history : Past)
    → AlwaysSteered m p instants → GiveSame program earlier n m M p instants history → Plays program earlier n m M history (state_after m p instants)

-- the bits that the variables of a machine have at an instant of clocked equations
abbrev pub bits_at : Machine → Placing → flat.Instant → Bits
bits_at m p i = joined (bits_of i (register_places m p)) (bits_of i p.early) (bits_of i (control_places m p)) (bits_of i p.late)

-- So at each instant it supposes and owes what the contract does in the game: it sees whether the contract is kept.
abbrev pub SteeredOweLaw : Type 0
SteeredOweLaw =
    OfReadyNodes
    (λ after earlier n.
    (m : Machine) (M : Mirrors after earlier n m) (p : Placing) (i : flat.Instant) (instants : List flat.Instant) (now : Instant) (history : Past) → AlwaysSteered m p (i ∷ instants) → GiveSame after earlier n m M p (i ∷ instants) (now ∷ history)
    → ((game m).hyp (bits_at m p i) ≡ hypothesis n now) × ((game m).duty (bits_at m p i) ≡ duty n now))

-- So what they choose next is the greatest permitted choice after the history.
abbrev pub SteeredChoiceLaw : Type 0
SteeredChoiceLaw =
    OfReadyNodes
    (λ after earlier n.
    (m : Machine) (M : Mirrors after earlier n m) → BitsInOrder after n m.prefer → length m.prefer ≡ m.control → (p : Placing) (i : flat.Instant) (instants : List flat.Instant) (history : Past)
    → (steered : AlwaysSteered m p (i ∷ instants)) → GiveSame after earlier n m M p instants history
    → (inputs : List Value) (early : Instant) → InputsFit (types_of after) n.inputs inputs → ((d : Choice) → SlotsFit (types_of after) (slots_of_node after n) (given_with (map marked inputs) early d))
    → (c : Choice) → IsChoiceOf after n c → codes_at (types_of after) (early_among M.is_early (slots_of_node after n)) (given_with (map marked inputs) early c) ≡ bits_of i p.early
    → choice_bits after n c ≡ (steered.0).choice → IsChosen after n history inputs early c)

-- So where nothing is free but the inputs: at each instant the controllable variables have the greatest permitted values.
abbrev pub InputsChoiceLaw : Type 0
InputsChoiceLaw =
    OfReadyNodes
    (λ after earlier n.
    HasInputsAlone after n → (m : Machine) → Mirrors after earlier n m → BitsInOrder after n m.prefer → length m.prefer ≡ m.control → (p : Placing) → p.late ≡ []
    → (i : flat.Instant) (instants : List flat.Instant) (now : Instant) (past : Past) → AlwaysSteered m p (i ∷ instants) → (given : GiveInputs after n m p (i ∷ instants) (now ∷ past))
    → IsChosen after n (erase past) (given.1).inputs now (controls_at n now))

-- And the machine supposes and owes what the node does at the instant.
abbrev pub InputsOweLaw : Type 0
InputsOweLaw =
    OfReadyNodes
    (λ after earlier n.
    HasInputsAlone after n → (m : Machine) → Mirrors after earlier n m → (p : Placing) → p.late ≡ []
    → (i : flat.Instant) (instants : List flat.Instant) (now : Instant) (past : Past) → AlwaysSteered m p (i ∷ instants) → GiveInputs after n m p (i ∷ instants) (now ∷ past)
    → ((game m).hyp (bits_at m p i) ≡ hypothesis n (erased now)) × ((game m).duty (bits_at m p i) ≡ duty n (erased now)))
