-- A program whose nodes choose, and whose contracts are kept, has the machines that choose.
-- Source: own; the controller is asked when all is known that depends on no controllable variable (Delaval, Marchand and Rutten, LCTES 2010).
use Rattle.std.specs.Prelude.{ℕ, List}
use Rattle.hp_lexer.specs.Lexing.{AreTokensOf}
use Rattle.hp_lexer.specs.declared.token.Token.{Token}
use Rattle.hp_parser.specs.Lexemes.{lexemes}
use Rattle.hp_parser.specs.Programs.{IsProgram}
use Rattle.hp_tree.specs.declared.program.Item.{Item}
use Rattle.hp_meaning.specs.Causal.RanksOfPoints.{AllFall}
use Rattle.hp_names.specs.Rules.{WellNamed}
use Rattle.hp_typing.specs.Rules.{WellTyped}
use Rattle.hp_typing.specs.DefinitionRules.{WellDefined}
use Rattle.hp_init.specs.Initialised.{IsInitialised}
use Rattle.hp_clocks.specs.Writing.{AreWritten}
use Rattle.hp_clocks.specs.Answers.{IsClocked}
use Rattle.hp_expand.specs.Refusals.{IsFormed}
use Rattle.hp_expand.specs.Numbering.{replaced}
use Rattle.hp_verdicts.specs.Decided.{AreKept}
use Rattle.hp_controlled.specs.Lacking.{HasNoChosenMachines}

-- Nothing is in the way of the machines of the program of a text that the judgements accept, whose points have ranks and whose contracts are kept.
abbrev pub ChosenBuiltLaw : Type 0
ChosenBuiltLaw =
    (text : List ℕ) (tokens : List Token) (program after : List Item) (ranks : List (List ℕ)) → AreTokensOf text tokens → IsProgram (lexemes text tokens) program
    → WellNamed program → WellTyped program → WellDefined program → IsFormed program → IsInitialised (replaced program) → AreWritten IsClocked (replaced program) after → AllFall after ranks
    → AreKept after after → HasNoChosenMachines after → ⊥
