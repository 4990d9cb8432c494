-- The words of a text of machines, and how they are written one behind the other.
use Rattle.std.specs.Prelude.{ℕ, ℤ, List, [], ◌∷◌, ◌++◌}
use Rattle.std.specs.Fmt.{signed_decimal}

-- A word that the grammar fixes, which begins a line or does not; the name of a type, a machine, a variable, a memory or an
-- instance; the name of a constructor; a number.
pub data Word : Type 0 where
  leading : List ℕ → Word
  fixed : List ℕ → Word
  small : List ℕ → Word
  capital : List ℕ → Word
  number : ℤ → Word

-- the bytes of a word
abbrev pub spelled : Word → List ℕ
spelled (leading w) = w
spelled (fixed w) = w
spelled (small x) = x
spelled (capital x) = x
spelled (number n) = signed_decimal n

-- the byte in front of a word: a newline or a space
abbrev pub gap : Word → ℕ
gap (leading w) = 10
gap w = 32

-- words with their gaps in front
abbrev pub spaced : List Word → List ℕ
spaced [] = []
spaced (w ∷ ws) = gap w ∷ spelled w ++ spaced ws

-- words with gaps between them, and a newline at the end
abbrev pub printed : List Word → List ℕ
printed [] = 10 ∷ []
printed (w ∷ ws) = spelled w ++ spaced ws ++ 10 ∷ []

-- a text with one more word, and with more words
unfoldable pub with_word : List ℕ → Word → List ℕ
with_word text w = text ++ gap w ∷ spelled w

unfoldable pub with_words : List ℕ → List Word → List ℕ
with_words text ws = text ++ spaced ws
