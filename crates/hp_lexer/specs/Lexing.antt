-- The tokens of a text, and what is refused first where it has none.
use Rattle.std.specs.Prelude.{◌≡◌, ◌≢◌, ◌≤◌, ◌<◌, ℕ, ◌+◌, ◌-◌, ◌==◌, not, true, false, List, [], ◌∷◌, ◌++◌, length, take, codes, count_by, slice_range}
use Rattle.std.specs.List.{suffix_len}
use Rattle.hp_base.specs.Limits.{most}
use Rattle.hp_base.specs.declared.limit.What.TheVariants.{Name, Size}
use Rattle.hp_base.specs.declared.span.Span.{Span}
use Rattle.hp_base.specs.Bytes.{is_blank}
use Rattle.hp_lexer.specs.Bytes.{begins_blank, begins_comment, begins_end}
use Rattle.hp_lexer.specs.Spelling.{Spells, IsWithin, IsNameKind, value_of, greatest_number}
use Rattle.hp_lexer.specs.declared.lexer.LexErr.{LexErr}
use Rattle.hp_lexer.specs.declared.lexer.LexErr.TheVariants.{Bad, Limit as Passes}
use Rattle.hp_lexer.specs.declared.token.Token.{Token}
use Rattle.hp_lexer.specs.declared.token.TokenKind.{TokenKind}
use Rattle.hp_lexer.specs.declared.token.TokenKind.TheVariants.{Number}

-- ---- places

-- how many newlines stand in front, and one more
abbrev pub line_behind : List ℕ → ℕ
line_behind front = 1 + count_by (λ b. b == 10) front

-- how many bytes stand behind the last newline, and one more
abbrev pub col_behind : List ℕ → ℕ
col_behind front = 1 + suffix_len (λ b. not (b == 10)) front

-- the next `size` bytes behind `front`
abbrev pub span_behind : List ℕ → ℕ → Span
span_behind front size = record { line = line_behind front; col = col_behind front; end = length front + size }

-- ---- what stands between tokens

-- What stands behind a `(*` up to its `*)`: byte by byte, and behind each further `(*` what stands there up to its own `*)`.
pub data Inside : List ℕ → Type 0 where
  ends : Inside (codes "*)")
  byte : {rest : List ℕ} (b : ℕ) → begins_comment (b ∷ rest) ≡ false → begins_end (b ∷ rest) ≡ false → Inside rest → Inside (b ∷ rest)
  nested : {inner rest : List ℕ} → Inside inner → Inside rest → Inside (codes "(*" ++ (inner ++ rest))

-- a `(*` and what stands behind it up to its `*)`
pub data IsComment : List ℕ → Type 0 where
  comment : {inside : List ℕ} → Inside inside → IsComment (codes "(*" ++ inside)

-- ---- tokens

-- In front of `rest` these bytes are a token: no longer bytes that stand there spell one, and no comment opens there.
pub record IsToken (kind : TokenKind) (w rest : List ℕ) : Type 0 where
  pub spelled : Spells kind w
  pub longest : (other : TokenKind) (v behind : List ℕ) → w ++ rest ≡ v ++ behind → Spells other v → length v ≤ length w
  pub no_comment : begins_comment (w ++ rest) ≡ false

-- the token that these bytes are, behind `front`
abbrev pub token_behind : List ℕ → TokenKind → List ℕ → Token
token_behind front kind w = record { kind = kind; span = span_behind front (length w); start = length front }

-- One piece of a text, between `front` and `rest`: a blank, a comment, or a token within its limits.
pub data Piece (front : List ℕ) : List ℕ → List ℕ → List Token → Type 0 where
  blank_piece : {rest : List ℕ} (b : ℕ) → is_blank b ≡ true → Piece front (b ∷ []) rest []
  comment_piece : {w rest : List ℕ} → IsComment w → Piece front w rest []
  token_piece : {w rest : List ℕ} (kind : TokenKind) → IsToken kind w rest → IsWithin kind w → Piece front w rest (token_behind front kind w ∷ [])

-- In front of `rest` these bytes are pieces alone, and their tokens are these.
pub data Reads : List ℕ → List Token → List ℕ → Type 0 where
  nothing : {rest : List ℕ} → Reads [] [] rest
  more : {front w rest : List ℕ} {tokens next : List Token} → Reads front tokens (w ++ rest) → Piece front w rest next → Reads (front ++ w) (tokens ++ next) rest

-- The text is within its limit, and its tokens are these.
pub record AreTokensOf (text : List ℕ) (tokens : List Token) : Type 0 where
  pub size : length text ≤ most Size
  pub read : Reads text tokens []

-- ---- refusals

-- The text begins with a byte that begins nothing.
pub record BeginsNothing (rest : List ℕ) : Type 0 where
  pub some : rest ≢ []
  pub no_blank : begins_blank rest ≡ false
  pub no_comment : begins_comment rest ≡ false
  pub no_token : (kind : TokenKind) (w behind : List ℕ) → rest ≡ w ++ behind → Spells kind w → ⊥

-- The text begins with a `(*` whose comment does not end.
pub record IsUnclosed (rest : List ℕ) : Type 0 where
  pub opened : begins_comment rest ≡ true
  pub unclosed : (w behind : List ℕ) → rest ≡ w ++ behind → IsComment w → ⊥

-- Behind `front` the rest of a text begins with what is no piece: nothing that is known, a comment that does not end,
-- a number that is too large, or a name that is too long.
pub data Stops (front : List ℕ) : List ℕ → LexErr → Type 0 where
  no_token : {rest : List ℕ} → BeginsNothing rest → Stops front rest (Bad (span_behind front 1))
  unclosed : {rest : List ℕ} → IsUnclosed rest → Stops front rest (Bad (span_behind front 1))
  too_large : {w rest : List ℕ} → IsToken Number w rest → greatest_number < value_of w → Stops front (w ++ rest) (Bad (span_behind front 1))
  long_name : {w rest : List ℕ} (kind : TokenKind) → IsNameKind kind → IsToken kind w rest → most Name < length w →
      Stops front (w ++ rest) (Passes (span_behind front (length w)) (record { what = Name; found = most Name + 1 }))

-- Why a text has no tokens: it is too long, or behind its first pieces stands what is no piece.
pub data Refuses (text : List ℕ) : LexErr → Type 0 where
  size : most Size < length text → Refuses text (Passes (span_behind (take (most Size) text) 1) (record { what = Size; found = most Size + 1 }))
  place : {error : LexErr} (front rest : List ℕ) (tokens : List Token) →
      length text ≤ most Size → text ≡ front ++ rest → Reads front tokens rest → Stops front rest error → Refuses text error

-- ---- what follows of each token

-- the bytes of a token
abbrev pub token_text : List ℕ → Token → List ℕ
token_text text token = slice_range text token.start token.span.end

-- The token stands in the text, at its place, and its bytes there spell its kind, within its limits.
pub record IsTokenIn (text : List ℕ) (token : Token) : Type 0 where
  pub order : token.start < token.span.end
  pub within : token.span.end ≤ length text
  pub place : token.span ≡ span_behind (take token.start text) (token.span.end - token.start)
  pub spelled : Spells token.kind (token_text text token)
  pub limited : IsWithin token.kind (token_text text token)

-- Each token begins where or behind where the one before it ends, and the first not before `start`.
abbrev pub AreInOrder : ℕ → List Token → Type 0
AreInOrder start [] = Unit {0}
AreInOrder start (token ∷ tokens) = (start ≤ token.start) × AreInOrder token.span.end tokens
