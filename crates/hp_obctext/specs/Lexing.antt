-- The words of a text: the longest parts of it without blanks that hold together.
use Rattle.std.specs.Prelude.{◌≡◌, ℕ, Bool, false, ◌||◌, ◌==◌, if◌then◌else◌, List, [], ◌∷◌}
use Rattle.hp_base.specs.Bytes.{is_small, is_capital, is_digit, is_word_byte, is_blank}
use Rattle.hp_obc.specs.Form.{is_name_byte}

-- What goes on with a word that begins with a byte: letters, digits, `_` and `$` behind a small letter and behind `@`, the same but for `$`
-- behind a capital letter, and digits behind a digit and behind `-`. Other bytes are words by themselves.
abbrev pub goes_on : ℕ → ℕ → Bool
goes_on b c =
    if is_small b || b == 64 then is_name_byte c else
    (if is_capital b then is_word_byte c else
    (if is_digit b || b == 45 then is_digit c else false))

abbrev pub nothing : ℕ → Bool
nothing c = false

-- the bytes in front of a text that go on with the word before it, and the words behind them
abbrev pub pieces : (ℕ → Bool) → List ℕ → List ℕ × List (List ℕ)
pieces on [] = ([], [])
pieces on (b ∷ text) =
    if on b then (b ∷ (pieces on text).0, (pieces on text).1) else
    (if is_blank b then ([], (pieces nothing text).1) else
    ([], (b ∷ (pieces (goes_on b) text).0) ∷ (pieces (goes_on b) text).1))

-- the words of a text
abbrev pub words : List ℕ → List (List ℕ)
words text = (pieces nothing text).1

-- A text has no blank in front.
abbrev pub BeginsWord : List ℕ → Type 0
BeginsWord [] = Unit {0}
BeginsWord (b ∷ text) = is_blank b ≡ false
