-- A machine that sees values of free places chooses the greatest permitted values, though it does not see which places are Nil.
-- Source: own.
use Rattle.std.specs.Prelude.{◌≡◌, Bool, List, ◌∷◌, length, map}
use Rattle.hp_base.specs.declared.value.Value.{Value}
use Rattle.hp_boolx.specs.Machine.{Machine}
use Rattle.hp_tree.specs.declared.program.Item.{Item}
use Rattle.hp_tree.specs.Operators.{marked}
use Rattle.hp_tree.specs.Programs.{Node}
use Rattle.hp_tree.specs.Instant.{Place, Instant, Past}
use Rattle.hp_tree.specs.Meaning.{types_of}
use Rattle.hp_tree.specs.Reaction.{controls_at}
use Rattle.hp_meaning.specs.Contract.Forgetting.{erased, erase}
use Rattle.hp_meaning.specs.Contract.FreePlaces.{InputsFit}
use Rattle.hp_meaning.specs.Contract.Game.{Choice, IsChoiceOf, IsChosen, IsNext}
use Rattle.hp_meaning.specs.Contract.Slots.{slots_of_node}
use Rattle.law_equations.specs.Meaning.Instants as flat
use Rattle.law_games.specs.Forced.Laws.{OfReadyNodes}
use Rattle.law_games.specs.Forced.Twins.{Plays}
use Rattle.law_games.specs.Mirror.Choices.{BitsInOrder}
use Rattle.law_games.specs.Mirror.Memories.{SlotsFit}
use Rattle.law_games.specs.Mirror.Mirrored.{Mirrors, codes_at, early_among, given_with, late_among}
use Rattle.law_games.specs.ReadyGames.FittingHistories.{AllFitting, IsFitting}
use Rattle.hp_controller.specs.Steps.{AlwaysSteered, Placing, state_after}
use Rattle.law_choices.specs.Seeing.Values.{AreOwn, SeeValues}

-- An instant of the game is also one for values of free places that are of their types everywhere and its own wherever it looks: for some given values that have their codes.
pub record IsGiven (program earlier : List Item) (n : Node) (history : Past) (inputs : List Value) (values : Instant) (c : Choice) (now : Instant) : Type 0 where
  pub early : Instant
  pub fits : IsFitting program earlier n history (map marked inputs) early c now
  pub early_codes : (is_early : Place → Bool) → codes_at (types_of program) (early_among is_early (slots_of_node program n)) (given_with (map marked inputs) fits.others c) ≡ codes_at (types_of program) (early_among is_early (slots_of_node program n)) (given_with (map marked inputs) values c)
  pub late_codes : (is_early : Place → Bool) → codes_at (types_of program) (late_among is_early (slots_of_node program n)) (given_with (map marked inputs) fits.others c) ≡ codes_at (types_of program) (late_among is_early (slots_of_node program n)) (given_with (map marked inputs) values c)

abbrev pub GivenLaw : Type 0
GivenLaw =
    OfReadyNodes
    (λ after earlier n.
    (history : Past) (inputs : List Value) (values : Instant) (c : Choice) (now : Instant) → InputsFit (types_of after) n.inputs inputs → IsChoiceOf after n c → IsNext after n history inputs now c (erased now)
    → SlotsFit (types_of after) (slots_of_node after n) (given_with (map marked inputs) values c) → AreOwn after n now values → IsGiven after earlier n history inputs values c (erased now))

-- So a machine that steers, and sees such values at each instant, plays along with the game,
abbrev pub ValuesPlayLaw : Type 0
ValuesPlayLaw =
    OfReadyNodes
    (λ after earlier n.
    (m : Machine) (M : Mirrors after earlier n m) (p : Placing) (instants : List flat.Instant) (past : Past) → AlwaysSteered m p instants → SeeValues after earlier n m M p instants past
    → AllFitting after earlier n (erase past) × Plays after earlier n m M (erase past) (state_after m p instants))

-- and at each instant the controllable variables have the greatest permitted values.
abbrev pub ValuesChoiceLaw : Type 0
ValuesChoiceLaw =
    OfReadyNodes
    (λ after earlier n.
    (m : Machine) (M : Mirrors after earlier n m) → BitsInOrder after n m.prefer → length m.prefer ≡ m.control → (p : Placing)
    → (i : flat.Instant) (instants : List flat.Instant) (now : Instant) (past : Past) → AlwaysSteered m p (i ∷ instants) → (given : SeeValues after earlier n m M p (i ∷ instants) (now ∷ past))
    → IsChosen after n (erase past) (given.1).inputs now (controls_at n now))
