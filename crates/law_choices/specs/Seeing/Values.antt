-- Instants of clocked equations that ask a machine for its choice, where the machine sees values of free places beside an instant of the node.
-- Source: own; the controller of Delaval, Marchand and Rutten (LCTES 2010), where more than inputs is not known of an instant.
use Rattle.std.specs.Prelude.{◌≡◌, ⊤, IsTrue, List, [], ◌∷◌, map}
use Rattle.hp_base.specs.declared.value.Value.{Value}
use Rattle.hp_boolx.specs.Machine.{Machine}
use Rattle.hp_tree.specs.declared.program.Item.{Item}
use Rattle.hp_tree.specs.Programs.{Node}
use Rattle.hp_tree.specs.Operators.{marked}
use Rattle.hp_tree.specs.Instant.{Place, Instant, Past}
use Rattle.hp_tree.specs.Meaning.{types_of}
use Rattle.hp_tree.specs.Reaction.{controls_at}
use Rattle.hp_meaning.specs.Contract.Forgetting.{erased, erase}
use Rattle.hp_meaning.specs.Contract.FreePlaces.{InputsFit, IsFree}
use Rattle.hp_meaning.specs.Contract.Game.{IsChoiceOf, IsNext}
use Rattle.hp_meaning.specs.Contract.Slots.{free_places, slots_of_node}
use Rattle.law_equations.specs.Meaning.Instants as flat
use Rattle.law_games.specs.Mirror.Choices.{choice_bits}
use Rattle.law_games.specs.Mirror.Memories.{SlotsFit}
use Rattle.law_games.specs.Mirror.Mirrored.{Mirrors, codes_at, early_among, given_with, late_among}
use Rattle.hp_controller.specs.Steps.{Placing, bits_of, control_places}
use Rattle.law_choices.specs.Chosen.Laws.{is_seen}

-- Values of free places are those that an instant has, wherever it looks at what is given there: for a comparison, where both operands are integers, and for an output of a call, where the call is there.
abbrev pub AreOwn : List Item → Node → Instant → Instant → Type 0
AreOwn program n now values = (q : Place) → IsFree (free_places program n) q → IsTrue (is_seen (erased now) q) → values q ≡ now q

-- An instant of the node is one of the game over inputs of its types. Beside it stand values of free places, of their types everywhere, and the instant's own wherever it looks. The variables of the machine hold the codes of inputs and of early ones, the bits of the values that the controllable variables have, and the codes of late ones.
pub record SeesValues (program earlier : List Item) (n : Node) (m : Machine) (M : Mirrors program earlier n m) (p : Placing) (older : Past) (i : flat.Instant) (now : Instant) : Type 0 where
  pub inputs : List Value
  pub values : Instant
  pub fit : InputsFit (types_of program) n.inputs inputs
  pub is_choice : IsChoiceOf program n (controls_at n now)
  pub next : IsNext program n (erase older) inputs now (controls_at n now) (erased now)
  pub typed : SlotsFit (types_of program) (slots_of_node program n) (given_with (map marked inputs) values (controls_at n now))
  pub own : AreOwn program n now values
  pub early_bits : bits_of i p.early ≡ codes_at (types_of program) (early_among M.is_early (slots_of_node program n)) (given_with (map marked inputs) values (controls_at n now))
  pub chosen_bits : bits_of i (control_places m p) ≡ choice_bits program n (controls_at n now)
  pub late_bits : bits_of i p.late ≡ codes_at (types_of program) (late_among M.is_early (slots_of_node program n)) (given_with (map marked inputs) values (controls_at n now))

-- so it is of all instants, one by one
abbrev pub SeeValues : (program earlier : List Item) (n : Node) (m : Machine) → Mirrors program earlier n m → Placing → List flat.Instant → Past → Type 0
SeeValues program earlier n m M p [] [] = ⊤
SeeValues program earlier n m M p (i ∷ instants) (now ∷ past) = SeeValues program earlier n m M p instants past × SeesValues program earlier n m M p past i now
SeeValues program earlier n m M p instants past = ⊥
