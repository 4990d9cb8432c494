-- Texts that are written token by token.
use Rattle.std.specs.Prelude.{◌≡◌, ℕ, true, List, [], ◌∷◌, ◌++◌}
use Rattle.hp_base.specs.Bytes.{is_blank}
use Rattle.hp_lexer.specs.Spelling.{Spells, IsWithin}
use Rattle.hp_lexer.specs.Lexing.{token_behind}
use Rattle.hp_lexer.specs.declared.token.Token.{Token}
use Rattle.hp_lexer.specs.declared.token.TokenKind.{TokenKind}

-- a token that is written, and the byte behind it
pub record Written : Type 0 where
  pub kind : TokenKind
  pub bytes : List ℕ
  pub behind : ℕ

-- Its bytes spell its kind, within its limits, and behind it stands a blank.
pub record IsWritable (w : Written) : Type 0 where
  pub spelled : Spells w.kind w.bytes
  pub limited : IsWithin w.kind w.bytes
  pub blank : is_blank w.behind ≡ true

-- the text of such tokens
abbrev pub written_text : List Written → List ℕ
written_text [] = []
written_text (w ∷ ws) = w.bytes ++ (w.behind ∷ written_text ws)

-- these tokens, with their places behind `front`
abbrev pub written_tokens : List ℕ → List Written → List Token
written_tokens front [] = []
written_tokens front (w ∷ ws) = token_behind front w.kind w.bytes ∷ written_tokens (front ++ (w.bytes ++ w.behind ∷ [])) ws
