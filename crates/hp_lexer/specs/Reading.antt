-- How the code reads a text, step by step: for its private functions alone.
use Rattle.std.specs.Prelude.{◌≡◌, ◌<◌, ◌≤◌, ℕ, zero, suc, ◌+◌, ◌^◌, ◌==◌, ◌&&◌, false, if◌then◌else◌, List, [], ◌∷◌, ◌++◌, length, take_while, Option, None, Some, option_map, find}
use Rattle.hp_base.specs.declared.span.Span.{Span}
use Rattle.std.specs.Str.{bytes_eq}
use Rattle.hp_base.specs.Bytes.{is_small, is_capital, is_digit, is_word_byte}
use Rattle.hp_lexer.specs.Bytes.{begins_blank, begins_comment}
use Rattle.hp_lexer.specs.Lexing.{line_behind, col_behind, Reads, Stops, IsUnclosed}
use Rattle.hp_lexer.specs.declared.lexer.LexErr.{LexErr}
use Rattle.hp_lexer.specs.Spelling.{keyword_text}
use Rattle.hp_lexer.specs.declared.token.Keyword.{Keyword}
use Rattle.hp_lexer.specs.declared.token.Keyword.TheVariants.{Assume, Automaton, Bool as BoolWord, Continue, Contract, Do, Else, End, Enforce, Every, False, Fby, If, In, Inlined, Int, Last, Let, Merge, Node, Not, On, Or, Pre, Reset, Returns, State, Switch, Tel, Then, True, «Type» as TypeWord, Unless, Until, Var, When, Whenot, With, Xor}
use Rattle.hp_lexer.specs.declared.token.TokenKind.{TokenKind}
use Rattle.hp_lexer.specs.declared.token.TokenKind.TheVariants.{Small, Capital, Number, Keyword as KeywordKind, Sign as SignKind}
use Rattle.hp_lexer.specs.declared.gap.Mark.{Mark}
use Rattle.hp_lexer.specs.declared.gap.Mark.TheVariants.{Opens, Closes, Plain}
use Rattle.hp_lexer.specs.declared.place.Place.{Place}
use Rattle.hp_lexer.specs.declared.token.Token.{Token}
use Rattle.hp_lexer.specs.declared.token.Sign.{Sign}
use Rattle.hp_lexer.specs.declared.token.Sign.TheVariants.{Open, Close, Comma, Semicolon, Colon, Equal, Unequal, Less, AtMost, Greater, AtLeast, Plus, Minus, Star, Slash, Percent, And, AndAnd, Bar, BarBar, Arrow, Implies}

-- ---- places

-- so many bytes behind the place its numbers are still numbers of 32 bits
pub record HasRoom (place : Place) (bytes : ℕ) : Type 0 where
  pub line : place.line + bytes < 2 ^ 32
  pub col : place.col + bytes < 2 ^ 32
  pub offset : place.offset + bytes < 2 ^ 32

-- the place behind these bytes of a text
abbrev pub place_behind : List ℕ → Place
place_behind front = record { line = line_behind front; col = col_behind front; offset = length front }

-- the place behind one more byte
abbrev pub next_place : Place → ℕ → Place
next_place p b = if b == 10 then (record { line = p.line + 1; col = 1; offset = p.offset + 1 }) else (record { line = p.line; col = p.col + 1; offset = p.offset + 1 })

-- the place behind more bytes, none of them a newline
abbrev pub along : Place → ℕ → Place
along p n = record { line = p.line; col = p.col + n; offset = p.offset + n }

-- the next bytes at a place
abbrev pub span_at : Place → ℕ → Span
span_at p n = record { line = p.line; col = p.col; end = p.offset + n }

-- ---- comments

-- what two bytes inside a comment say
abbrev pub mark_of : ℕ → ℕ → Mark
mark_of b c = if b == 40 && c == 42 then Opens else (if b == 42 && c == 41 then Closes else Plain)

-- behind the ends of so many open comments: the rest of the text, and its place
abbrev pub comment_end : ℕ → List ℕ → Place → Option (List ℕ × Place)
comment_end zero text p = Some (text, p)
comment_end (suc n) (b ∷ c ∷ rest) p =
    elim (mark_of b c) [ Opens ↦ comment_end (suc (suc n)) rest (along p 2) | Closes ↦ comment_end n rest (along p 2) | Plain ↦ comment_end (suc n) (c ∷ rest) (next_place p b) ]
comment_end (suc n) text p = None

-- ---- where a reader stands

-- Behind the first pieces of a text, whose tokens are these, stands `rest`, at this place.
pub record Stands (text : List ℕ) (tokens : List Token) (rest : List ℕ) (place : Place) : Type 0 where
  pub front : List ℕ
  pub text_is : text ≡ front ++ rest
  pub place_is : place ≡ place_behind front
  pub read : Reads front tokens rest

-- Who stands at the one place gets to the other, over blanks and comments alone.
abbrev pub Leads : List ℕ → Place → List ℕ → Place → Type 0
Leads rest place behind next = (text : List ℕ) (tokens : List Token) → Stands text tokens rest place → Stands text tokens behind next

-- Over blanks and comments alone one gets to a comment that does not end, at the place `at`.
pub record Unended (rest : List ℕ) (place at : Place) : Type 0 where
  pub behind : List ℕ
  pub leads : Leads rest place behind at
  pub room : HasRoom at (length behind)
  pub unclosed : IsUnclosed behind

-- what a gap leads to: the end of the text, or what is no blank and no comment
pub record IsGap (rest : List ℕ) (place : Place) (behind : List ℕ) (next : Place) : Type 0 where
  pub leads : Leads rest place behind next
  pub room : HasRoom next (length behind)
  pub shorter : length behind ≤ length rest
  pub no_blank : begins_blank behind ≡ false
  pub no_comment : begins_comment behind ≡ false

-- A token is next, and behind it stands `behind`.
pub record IsNext (rest : List ℕ) (place : Place) (token : Token) (behind : List ℕ) (next : Place) : Type 0 where
  pub adds : (text : List ℕ) (tokens : List Token) → Stands text tokens rest place → Stands text (tokens ++ token ∷ []) behind next
  pub room : HasRoom next (length behind)
  pub shorter : length behind < length rest

-- the text is refused behind its first pieces
pub record StopsIn (text : List ℕ) (error : LexErr) : Type 0 where
  pub front : List ℕ
  pub rest : List ℕ
  pub tokens : List Token
  pub text_is : text ≡ front ++ rest
  pub read : Reads front tokens rest
  pub stops : Stops front rest error

-- Who stands there gets, perhaps over blanks and comments, to what is refused.
abbrev pub Fails : List ℕ → Place → LexErr → Type 0
Fails rest place error = (text : List ℕ) (tokens : List Token) → Stands text tokens rest place → StopsIn text error

-- Who stands there has read all tokens.
abbrev pub Ends : List ℕ → Place → Type 0
Ends rest place = (text : List ℕ) (tokens : List Token) → Stands text tokens rest place → Reads text tokens []

-- ---- signs and keywords

-- the sign of two bytes
abbrev pub two_byte_sign : ℕ → ℕ → Option Sign
two_byte_sign b c =
    if b == 60 && c == 62 then Some Unequal else
    (if b == 60 && c == 61 then Some AtMost else
    (if b == 62 && c == 61 then Some AtLeast else
    (if b == 38 && c == 38 then Some AndAnd else
    (if b == 124 && c == 124 then Some BarBar else
    (if b == 45 && c == 62 then Some Arrow else
    (if b == 61 && c == 62 then Some Implies else None))))))

-- the sign of one byte
abbrev pub one_byte_sign : ℕ → Option Sign
one_byte_sign b =
    if b == 40 then Some Open else
    (if b == 41 then Some Close else
    (if b == 44 then Some Comma else
    (if b == 59 then Some Semicolon else
    (if b == 58 then Some Colon else
    (if b == 61 then Some Equal else
    (if b == 60 then Some Less else
    (if b == 62 then Some Greater else
    (if b == 43 then Some Plus else
    (if b == 45 then Some Minus else
    (if b == 42 then Some Star else
    (if b == 47 then Some Slash else
    (if b == 37 then Some Percent else
    (if b == 38 then Some And else
    (if b == 124 then Some Bar else None))))))))))))))

-- that sign and its length
abbrev pub short_sign_in : ℕ → Option (Sign × ℕ)
short_sign_in b = option_map (λ s. (s, 1)) (one_byte_sign b)

-- the longest sign in front, and its length
abbrev pub sign_in : List ℕ → Option (Sign × ℕ)
sign_in [] = None
sign_in (b ∷ []) = short_sign_in b
sign_in (b ∷ c ∷ rest) = elim (two_byte_sign b c) [ None ↦ short_sign_in b | Some s ↦ Some (s, 2) ]

-- the keywords that begin with a letter
abbrev pub keywords_with : ℕ → List Keyword
keywords_with b =
    if b == 97 then Assume ∷ Automaton ∷ [] else
    (if b == 98 then BoolWord ∷ [] else
    (if b == 99 then Continue ∷ Contract ∷ [] else
    (if b == 100 then Do ∷ [] else
    (if b == 101 then Else ∷ End ∷ Enforce ∷ Every ∷ [] else
    (if b == 102 then False ∷ Fby ∷ [] else
    (if b == 105 then If ∷ In ∷ Inlined ∷ Int ∷ [] else
    (if b == 108 then Last ∷ Let ∷ [] else
    (if b == 109 then Merge ∷ [] else
    (if b == 110 then Node ∷ Not ∷ [] else
    (if b == 111 then On ∷ Or ∷ [] else
    (if b == 112 then Pre ∷ [] else
    (if b == 114 then Reset ∷ Returns ∷ [] else
    (if b == 115 then State ∷ Switch ∷ [] else
    (if b == 116 then Tel ∷ Then ∷ True ∷ TypeWord ∷ [] else
    (if b == 117 then Unless ∷ Until ∷ [] else
    (if b == 118 then Var ∷ [] else
    (if b == 119 then When ∷ Whenot ∷ With ∷ [] else
    (if b == 120 then Xor ∷ [] else []))))))))))))))))))

-- the keyword that a word spells
abbrev pub keyword_of : List ℕ → Option Keyword
keyword_of [] = None
keyword_of (b ∷ w) = find (λ k. bytes_eq (keyword_text k) (b ∷ w)) (keywords_with b)

-- the kind of a word that begins with a small letter
abbrev pub word_kind : Option Keyword → TokenKind
word_kind None = Small
word_kind (Some k) = KeywordKind k

-- the kind and the length of the token in front
abbrev pub token_in : List ℕ → Option (TokenKind × ℕ)
token_in [] = None
token_in (b ∷ text) =
    if is_small b then Some (word_kind (keyword_of (take_while is_word_byte (b ∷ text))), length (take_while is_word_byte (b ∷ text))) else
    (if is_capital b then Some (Capital, length (take_while is_word_byte (b ∷ text))) else
    (if is_digit b then Some (Number, length (take_while is_digit (b ∷ text))) else
    option_map (λ s. (SignKind s.0, s.1)) (sign_in (b ∷ text))))
