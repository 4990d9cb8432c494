-- The words of a text, from the front.
use Rattle.std.specs.Prelude.{ℕ, zero, suc, Bool, true, false, not, ◌||◌, ◌==◌, nat_eq, if◌then◌else◌, List, [], ◌∷◌, length, drop, take_while, codes, Result, Ok, Err}
use Rattle.std.specs.List.{starts_with}
use Rattle.std.specs.Str.{bytes_eq}
use Rattle.hp_obc.specs.Form.{is_reserved}
use Rattle.hp_obctext.specs.MemoryTexts.{is_gap, is_value}

-- the first word of a text, which may have no byte
abbrev pub first_word : List ℕ → List ℕ
first_word text = take_while (λ b. not (is_gap b)) text

-- what stands behind it
abbrev pub behind : List ℕ → List ℕ
behind text = drop (length (first_word text)) text

-- what stands behind the word and the byte that ends it
abbrev pub next : List ℕ → List ℕ
next text = drop 1 (behind text)

-- the first words of a text
abbrev pub first_words : ℕ → List ℕ → List (List ℕ)
first_words zero text = []
first_words (suc n) text = first_word text ∷ first_words n (next text)

-- What stands behind a word that fits and its gap, or from where the text is refused. A word that is cut off by the end of the text, and can go on, is refused behind the end.
abbrev pub taken_by : Bool → Bool → ℕ → List ℕ → List ℕ → Result (List ℕ) (List ℕ)
taken_by true goes_on gap text [] = Err []
taken_by true goes_on gap text (b ∷ rest) = if b == gap then Ok rest else Err (b ∷ rest)
taken_by false true gap text [] = Err []
taken_by false goes_on gap text rest = Err text

abbrev pub taken : Bool → Bool → ℕ → List ℕ → Result (List ℕ) (List ℕ)
taken fits goes_on gap text = taken_by fits goes_on gap text (behind text)

-- a word begins another
abbrev pub begins : List ℕ → List ℕ → Bool
begins w word = starts_with nat_eq word w

-- a word that is no name, but begins one
abbrev pub begins_name : List ℕ → Bool
begins_name w = is_reserved w || length w == 0

-- a word is the last of a checkpoint, or spells a value
abbrev pub is_last : List ℕ → Bool
is_last w = bytes_eq w (codes "end")

abbrev pub is_line : List ℕ → Bool
is_line w = is_last w || is_value w

-- a word that is none of these, but begins one
abbrev pub begins_line : List ℕ → Bool
begins_line w = begins w (codes "end") || begins w (codes "true") || begins w (codes "false") || bytes_eq w (codes "-")
