-- What the machines of a program say is what the program allows.
-- Source: own; a controlled program does nothing that the program without its controller could not do, after Ramadge and Wonham (The control of discrete event systems, Proceedings of the IEEE, 1989).
use Rattle.std.specs.Prelude.{ℕ, List, reverse}
use Rattle.hp_lexer.specs.Lexing.{AreTokensOf}
use Rattle.hp_lexer.specs.declared.token.Token.{Token}
use Rattle.hp_parser.specs.Lexemes.{lexemes}
use Rattle.hp_parser.specs.Programs.{IsProgram}
use Rattle.hp_obc.specs.Machines.{Obc}
use Rattle.hp_tree.specs.declared.program.Item.{Item}
use Rattle.hp_meaning.specs.Causal.RanksOfPoints.{AllFall}
use Rattle.hp_meaning.specs.Contract.Guarantee.{AllSafe}
use Rattle.hp_names.specs.Rules.{WellNamed}
use Rattle.hp_typing.specs.Rules.{WellTyped}
use Rattle.hp_typing.specs.DefinitionRules.{WellDefined}
use Rattle.hp_init.specs.Initialised.{IsInitialised}
use Rattle.hp_clocks.specs.Writing.{AreWritten}
use Rattle.hp_clocks.specs.Answers.{IsClocked}
use Rattle.hp_expand.specs.Refusals.{IsFormed}
use Rattle.hp_expand.specs.Numbering.{replaced}
use Rattle.hp_controlled.specs.Chosen.{AreControlledMachines}
use Rattle.law_controlled.specs.Greatest.{AllSayGreatest}
use Rattle.law_controlled.specs.Saying.{AllSayAllowed}

-- So it is of the machines of the program of a text that the judgements accept, whose points have ranks.
abbrev pub SaidLaw : Type 0
SaidLaw =
    (text : List ℕ) (tokens : List Token) (program after : List Item) (ranks : List (List ℕ)) (o : Obc) → AreTokensOf text tokens → IsProgram (lexemes text tokens) program
    → WellNamed program → WellTyped program → WellDefined program → IsFormed program → IsInitialised (replaced program) → AreWritten IsClocked (replaced program) after → AllFall after ranks
    → AreControlledMachines after o → AllSayAllowed after o

-- Where nothing is forced at first in any node with a contract, these machines also say runs of the greatest permitted values, if no integers are compared in the contracts of the nodes that a node calls.
abbrev pub GreatestSaidLaw : Type 0
GreatestSaidLaw =
    (text : List ℕ) (tokens : List Token) (program after : List Item) (ranks : List (List ℕ)) (o : Obc) → AreTokensOf text tokens → IsProgram (lexemes text tokens) program
    → WellNamed program → WellTyped program → WellDefined program → IsFormed program → IsInitialised (replaced program) → AreWritten IsClocked (replaced program) after → AllFall after ranks
    → AllSafe after (reverse after) → AreControlledMachines after o → AllSayGreatest after o
