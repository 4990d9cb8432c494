-- What it is that a text is read back.
use Rattle.std.specs.Prelude.{◌≡◌, ℕ, List, []}
use Rattle.hp_lexer.specs.Lexing.{Reads, AreTokensOf}
use Rattle.hp_lexer.specs.declared.token.Token.{Token}
use Rattle.hp_parser.specs.Lexemes.{lexemes}
use Rattle.hp_parser.specs.Programs.{IsProgram}
use Rattle.hp_tree.specs.declared.program.Item.{Item}
use Rattle.hp_print.specs.Places.{bare_program}

-- The program is, but for places, that of some text of any length. The tokens of a text have names and numbers within their limits.
pub record IsOfText (program : List Item) : Type 0 where
  pub text : List ℕ
  pub tokens : List Token
  pub tree : List Item
  pub lexed : Reads text tokens []
  pub parsed : IsProgram (lexemes text tokens) tree
  pub same : bare_program tree ≡ bare_program program

-- The text has tokens, these have a program, and that is this one but for places.
pub record IsReadBack (program : List Item) (text : List ℕ) : Type 0 where
  pub tokens : List Token
  pub tree : List Item
  pub lexed : AreTokensOf text tokens
  pub parsed : IsProgram (lexemes text tokens) tree
  pub same : bare_program tree ≡ bare_program program
