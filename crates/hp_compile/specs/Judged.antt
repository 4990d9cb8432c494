-- The program of a text, and what it has to meet.
use Rattle.std.specs.Prelude.{ℕ, List}
use Rattle.hp_lexer.specs.Lexing.{AreTokensOf}
use Rattle.hp_lexer.specs.declared.token.Token.{Token}
use Rattle.hp_tree.specs.declared.program.Item.{Item}
use Rattle.hp_parser.specs.Lexemes.{lexemes}
use Rattle.hp_parser.specs.Programs.{IsProgram}
use Rattle.hp_names.specs.Rules.{WellNamed}
use Rattle.hp_typing.specs.Rules.{WellTyped}
use Rattle.hp_typing.specs.DefinitionRules.{WellDefined}

-- the text has tokens, and they are the program by the grammar within its limits
pub record IsProgramOf (text : List ℕ) (program : List Item) : Type 0 where
  pub tokens : List Token
  pub spelled : AreTokensOf text tokens
  pub read : IsProgram (lexemes text tokens) program

-- its names are well used and well defined, and its types agree
pub record IsJudged (text : List ℕ) (program : List Item) : Type 0 where
  pub program_of : IsProgramOf text program
  pub named : WellNamed program
  pub typed : WellTyped program
  pub defined : WellDefined program
