-- Instants of clocked equations that ask a machine for its choice, beside instants of the game of a contract.
-- Source: own; the controller of Delaval, Marchand and Rutten (LCTES 2010) beside the game that it is made for.
use Rattle.std.specs.Prelude.{◌≡◌, ⊤, List, [], ◌∷◌}
use Rattle.hp_base.specs.declared.value.Value.{Value}
use Rattle.hp_boolx.specs.Machine.{Machine}
use Rattle.hp_tree.specs.declared.program.Item.{Item}
use Rattle.hp_tree.specs.Programs.{Node}
use Rattle.hp_tree.specs.Instant.{Instant, Past}
use Rattle.hp_tree.specs.Meaning.{types_of}
use Rattle.hp_meaning.specs.Contract.Game.{Choice, IsChoiceOf}
use Rattle.hp_meaning.specs.Contract.Slots.{slots_of_node}
use Rattle.law_equations.specs.Meaning.Instants as flat
use Rattle.law_games.specs.Mirror.Choices.{choice_bits}
use Rattle.law_games.specs.Mirror.Mirrored.{Mirrors, codes_at, early_among, given_with, late_among}
use Rattle.law_games.specs.ReadyGames.FittingHistories.{IsFitting}
use Rattle.hp_controller.specs.Steps.{Placing, bits_of, control_places}

-- The variables of the machine hold what an instant of the game is given: the codes of inputs and early values, the bits of the choice, and the codes of late values.
pub record GivesSame (program earlier : List Item) (n : Node) (m : Machine) (M : Mirrors program earlier n m) (p : Placing) (history : Past) (i : flat.Instant) (now : Instant) : Type 0 where
  pub inputs : List Value
  pub early : Instant
  pub chosen : Choice
  pub is_choice : IsChoiceOf program n chosen
  pub fits : IsFitting program earlier n history inputs early chosen now
  pub early_bits : bits_of i p.early ≡ codes_at (types_of program) (early_among M.is_early (slots_of_node program n)) (given_with inputs fits.others chosen)
  pub chosen_bits : bits_of i (control_places m p) ≡ choice_bits program n chosen
  pub late_bits : bits_of i p.late ≡ codes_at (types_of program) (late_among M.is_early (slots_of_node program n)) (given_with inputs fits.others chosen)

-- so it is of all instants, one by one
abbrev pub GiveSame : (program earlier : List Item) (n : Node) (m : Machine) → Mirrors program earlier n m → Placing → List flat.Instant → Past → Type 0
GiveSame program earlier n m M p [] [] = ⊤
GiveSame program earlier n m M p (i ∷ instants) (now ∷ history) = GiveSame program earlier n m M p instants history × GivesSame program earlier n m M p history i now
GiveSame program earlier n m M p instants history = ⊥
