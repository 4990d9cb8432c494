-- A program whose nodes choose has one list of machines, as far as one can tell by running them.
-- Source: own.
use Rattle.std.specs.Prelude.{◌≡◌, ℕ, false, List}
use Rattle.hp_lexer.specs.Lexing.{AreTokensOf}
use Rattle.hp_lexer.specs.declared.token.Token.{Token}
use Rattle.hp_parser.specs.Lexemes.{lexemes}
use Rattle.hp_parser.specs.Programs.{IsProgram}
use Rattle.hp_obc.specs.Form.{TypesForm}
use Rattle.hp_obc.specs.Machines.{Obc}
use Rattle.hp_tree.specs.declared.program.Item.{Item}
use Rattle.hp_tree.specs.Programs.{Node}
use Rattle.hp_meaning.specs.Causal.RanksOfPoints.{AllFall}
use Rattle.hp_names.specs.Rules.{WellNamed}
use Rattle.hp_typing.specs.Rules.{WellTyped}
use Rattle.hp_typing.specs.DefinitionRules.{WellDefined}
use Rattle.hp_init.specs.Initialised.{IsInitialised}
use Rattle.hp_clocks.specs.Writing.{AreWritten}
use Rattle.hp_clocks.specs.Answers.{IsClocked}
use Rattle.hp_expand.specs.Refusals.{IsFormed}
use Rattle.hp_expand.specs.Numbering.{replaced}
use Rattle.law_judged.specs.Named.Scoped.{EachNode}
use Rattle.law_games.specs.ReadyGames.Laws.{IsInOrder}
use Rattle.hp_automata.specs.NewNames.{is_new}
use Rattle.law_automata.specs.Lowered.Removable.{IsRemovable}
use Rattle.law_equations.specs.Made.Types.{obc_types_of}
use Rattle.law_wellmade.specs.Spelled.Integers.{NodeShort}
use Rattle.law_choices.specs.Observed.Contracts.{IsObservable}
use Rattle.hp_controlled.specs.Chosen.{AreControlledMachines}
use Rattle.law_controlled.specs.Alike.{AreOneList}

-- The types are the same, and each machine of the one list does what that of its name in the other does, with the same memories.
pub record AreOne (o other : Obc) : Type 0 where
  pub types : o.types ≡ other.types
  pub machines : AreOneList o other

-- So it is of two lists that are compiled of a ready program in order, whose contracts can be observed.
abbrev pub OneListLaw : Type 0
OneListLaw =
    (program after : List Item) (ranks : List (List ℕ)) (o other : Obc) → IsInOrder program after ranks → IsRemovable after → TypesForm (obc_types_of program) → EachNode NodeShort after → EachNode (λ (n : Node). is_new n.name ≡ false) after
    → EachNode IsObservable after → AreControlledMachines after o → AreControlledMachines after other → AreOne o other

-- And so of the program of a text that the judgements accept, whose points have ranks.
abbrev pub OneTextListLaw : Type 0
OneTextListLaw =
    (text : List ℕ) (tokens : List Token) (program after : List Item) (ranks : List (List ℕ)) (o other : Obc) → AreTokensOf text tokens → IsProgram (lexemes text tokens) program
    → WellNamed program → WellTyped program → WellDefined program → IsFormed program → IsInitialised (replaced program) → AreWritten IsClocked (replaced program) after → AllFall after ranks
    → AreControlledMachines after o → AreControlledMachines after other → AreOne o other
