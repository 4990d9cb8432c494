-- The places of words in a text.
use Rattle.std.specs.Prelude.{◌≡◌, ℕ, ◌+◌, not, ◌==◌, List, [], ◌∷◌, ◌++◌, length, count_by, drop}
use Rattle.std.specs.List.{suffix_len}
use Rattle.hp_base.specs.declared.span.Span.{Span}
use Rattle.hp_obctext.specs.Lexing.{words, BeginsWord}

-- how many newlines stand in front, and one more
abbrev pub line_behind : List ℕ → ℕ
line_behind front = 1 + count_by (λ b. b == 10) front

-- how many bytes stand behind the last newline, and one more
abbrev pub col_behind : List ℕ → ℕ
col_behind front = 1 + suffix_len (λ b. not (b == 10)) front

-- the next `size` bytes behind `front`
abbrev pub span_behind : List ℕ → ℕ → Span
span_behind front size = record { line = line_behind front; col = col_behind front; end = length front + size }

-- the length of the first word, if there is one
abbrev pub first_length : List (List ℕ) → ℕ
first_length [] = 0
first_length (w ∷ ws) = length w

-- `rest` is the end of a text.
pub record IsEndOf (text rest : List ℕ) : Type 0 where
  pub front : List ℕ
  pub split : text ≡ front ++ rest

-- The place of the word of a number, counted from 0, or the one behind the text where there are only so many words.
pub record IsPlaceOf (text : List ℕ) (number : ℕ) (span : Span) : Type 0 where
  pub front : List ℕ
  pub rest : List ℕ
  pub split : text ≡ front ++ rest
  pub no_blank : BeginsWord rest
  pub words_are : words rest ≡ drop number (words text)
  pub span_is : span ≡ span_behind front (first_length (words rest))
