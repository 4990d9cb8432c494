-- Tokens with what they spell.
use Rattle.std.specs.Prelude.{ℕ, List, [], ◌∷◌, map, slice_range, Bool, false, Option, None, Some}
use Rattle.hp_base.specs.declared.span.Span.{Span}
use Rattle.hp_lexer.specs.declared.token.Token.{Token}
use Rattle.hp_lexer.specs.declared.token.TokenKind.{TokenKind}

-- a token: its kind, the bytes that spell it, and its place
pub record Lexeme : Type 0 where
  pub kind : TokenKind
  pub bytes : List ℕ
  pub span : Span

-- the tokens of a text
abbrev pub lexeme : List ℕ → Token → Lexeme
lexeme text t = record { kind = t.kind; bytes = slice_range text t.start t.span.end; span = t.span }

abbrev pub lexemes : List ℕ → List Token → List Lexeme
lexemes text ts = map (lexeme text) ts

-- a set of kinds of tokens
abbrev pub Kinds : Type 0
Kinds = TokenKind → Bool

-- The first token is there, and is of these kinds.
abbrev pub is_ahead : Kinds → List Lexeme → Bool
is_ahead kinds [] = false
is_ahead kinds (t ∷ ts) = kinds t.kind

-- the kind of the first token
abbrev pub kind_ahead : List Lexeme → Option TokenKind
kind_ahead [] = None
kind_ahead (t ∷ ts) = Some t.kind
