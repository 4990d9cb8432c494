-- What is asked of programs whose nodes choose is so of those of texts.
-- Source: own.
use Rattle.std.specs.Prelude.{◌≡◌, ℕ, false, List}
use Rattle.hp_lexer.specs.Lexing.{AreTokensOf}
use Rattle.hp_lexer.specs.declared.token.Token.{Token}
use Rattle.hp_parser.specs.Lexemes.{lexemes}
use Rattle.hp_parser.specs.Programs.{IsProgram}
use Rattle.hp_tree.specs.declared.program.Item.{Item}
use Rattle.hp_tree.specs.Meaning.{types_of}
use Rattle.hp_tree.specs.Programs.{Node}
use Rattle.hp_names.specs.Rules.{WellNamed}
use Rattle.hp_typing.specs.Rules.{WellTyped}
use Rattle.hp_typing.specs.DefinitionRules.{WellDefined}
use Rattle.hp_init.specs.Initialised.{IsInitialised}
use Rattle.hp_clocks.specs.Writing.{AreWritten}
use Rattle.hp_clocks.specs.Answers.{IsClocked}
use Rattle.hp_expand.specs.Refusals.{IsFormed}
use Rattle.hp_expand.specs.Numbering.{replaced}
use Rattle.law_judged.specs.Named.Scoped.{EachNode}
use Rattle.hp_automata.specs.Lowering.{lowered_program}
use Rattle.hp_automata.specs.NewNames.{is_new}
use Rattle.law_equations.specs.Made.Types.{obc_types}
use Rattle.hp_complete.specs.Declaring.{known_of}
use Rattle.hp_complete.specs.Made.{AreMadeOf}
use Rattle.hp_watch.specs.Watching.{Observing}
use Rattle.law_choices.specs.Adding.Surveyed.{AllSuit}
use Rattle.law_choices.specs.Answered.Loops.{plants}
use Rattle.law_choices.specs.InTurn.Calling.{CallNothing}
use Rattle.law_choices.specs.InTurn.Laws.{said_of, IsChoosing}
use Rattle.law_choices.specs.InTurn.Nodes.{Made, AreAllMade, loops}

-- The program of a text that the judgements accept, and that is arranged, is such.
abbrev pub TextLaw : Type 0
TextLaw =
    (text : List ℕ) (tokens : List Token) (program after : List Item) (observers : Observing) (ms : List Made) → AreTokensOf text tokens → IsProgram (lexemes text tokens) program
    → WellNamed program → WellTyped program → WellDefined program → IsFormed program → IsInitialised (replaced program) → AreWritten IsClocked (replaced program) after
    → AreMadeOf (known_of (lowered_program after)) (lowered_program after) (plants (loops ms)) → AllSuit (obc_types (types_of after)) (said_of after ms) observers → CallNothing observers
    → AreAllMade (obc_types (types_of after)) observers after ms → IsChoosing program after observers ms

-- No name of a node of a text holds the sign, so none does where inlined calls are replaced and clocks are written.
abbrev pub SignLaw : Type 0
SignLaw =
    (text : List ℕ) (tokens : List Token) (program after : List Item) → AreTokensOf text tokens → IsProgram (lexemes text tokens) program → AreWritten IsClocked (replaced program) after → EachNode (λ (n : Node). is_new n.name ≡ false) after
