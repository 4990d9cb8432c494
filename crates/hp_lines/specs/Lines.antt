-- The line of some values, and how long it can be.
use Rattle.std.specs.Prelude.{ℕ, ◌+◌, max, min, true, false, List, [], ◌∷◌, ◌++◌, length, codes, slice_index_or}
use Rattle.std.specs.List.{join_with_byte, sum_by}
use Rattle.std.specs.Fmt.{signed_decimal}
use Rattle.hp_base.specs.Kinds.{KindData, Bools, Ints, Constructors}
use Rattle.hp_base.specs.declared.value.Value.{Value}
use Rattle.hp_base.specs.declared.value.Value.TheVariants.{B, E, I}

-- the word that spells a value of a kind
abbrev pub text_of : KindData → Value → List ℕ
text_of Bools (B true) = codes "true"
text_of Bools (B false) = codes "false"
text_of Ints (I n) = signed_decimal n
text_of (Constructors number names) (E t c) = slice_index_or names c []
text_of kind value = []

abbrev pub texts_of : List KindData → List Value → List (List ℕ)
texts_of (kind ∷ kinds) (value ∷ values) = text_of kind value ∷ texts_of kinds values
texts_of kinds values = []

-- some words, each with a space in front
abbrev pub spaced : List (List ℕ) → List ℕ
spaced [] = []
spaced (w ∷ ws) = 32 ∷ w ++ spaced ws

-- the line of some values: one space between their words, and a newline
abbrev pub line_of : List KindData → List Value → List ℕ
line_of kinds values = join_with_byte 32 (texts_of kinds values) ++ 10 ∷ []

-- the length of the longest of some names
abbrev pub longest : List (List ℕ) → ℕ
longest [] = 0
longest (name ∷ names) = max (length name) (longest names)

-- the length of the longest word of a kind: `false`, -2147483648, or a constructor
abbrev pub longest_word : KindData → ℕ
longest_word Bools = 5
longest_word Ints = 11
longest_word (Constructors number names) = longest names

-- each word has a byte behind it
abbrev pub word_room : KindData → ℕ
word_room kind = longest_word kind + 1

-- the length of the longest line of values of the kinds
abbrev pub longest_line : List KindData → ℕ
longest_line kinds = max 1 (sum_by word_room kinds)

-- that length, or the greatest `usize` where it is greater
abbrev pub line_bound : List KindData → ℕ
line_bound kinds = min 18446744073709551615 (longest_line kinds)
