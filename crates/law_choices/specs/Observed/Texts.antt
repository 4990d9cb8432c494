-- The contracts of the program of a text can be observed.
-- Source: own.
use Rattle.std.specs.Prelude.{ℕ, List}
use Rattle.hp_lexer.specs.Lexing.{AreTokensOf}
use Rattle.hp_lexer.specs.declared.token.Token.{Token}
use Rattle.hp_parser.specs.Lexemes.{lexemes}
use Rattle.hp_parser.specs.Programs.{IsProgram}
use Rattle.hp_tree.specs.declared.program.Item.{Item}
use Rattle.hp_clocks.specs.Writing.{AreWritten}
use Rattle.hp_clocks.specs.Answers.{IsClocked}
use Rattle.hp_expand.specs.Numbering.{replaced}
use Rattle.law_judged.specs.Named.Scoped.{EachNode}
use Rattle.law_choices.specs.Observed.Contracts.{IsObservable}

-- No name of it is a name that an observer has beside those of its contract, its integers are of 32 bits, and no node has many outputs.
abbrev pub ObservableTextsLaw : Type 0
ObservableTextsLaw =
    (text : List ℕ) (tokens : List Token) (program after : List Item) → AreTokensOf text tokens → IsProgram (lexemes text tokens) program → AreWritten IsClocked (replaced program) after → EachNode IsObservable after
