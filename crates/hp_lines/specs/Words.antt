-- The words of a line.
use Rattle.std.specs.Prelude.{◌≡◌, ℕ, Bool, true, false, ◌||◌, ◌==◌, if◌then◌else◌, List, [], ◌∷◌}

-- a space, a tab or a carriage return
abbrev pub is_blank : ℕ → Bool
is_blank b = b == 32 || b == 9 || b == 13

-- a byte in front of the words of the rest of a line: it is in the first word, where that begins at once
abbrev pub in_word : ℕ → Bool → List (List ℕ) → List (List ℕ)
in_word b true (w ∷ ws) = (b ∷ w) ∷ ws
in_word b joins ws = (b ∷ []) ∷ ws

abbrev pub begins_word : List ℕ → Bool
begins_word [] = false
begins_word (b ∷ line) = if is_blank b then false else true

-- the words of a line: its longest parts without blanks
abbrev pub words : List ℕ → List (List ℕ)
words [] = []
words (b ∷ line) = if is_blank b then words line else in_word b (begins_word line) (words line)

-- A line has no blank in front.
abbrev pub BeginsWord : List ℕ → Type 0
BeginsWord [] = Unit {0}
BeginsWord (b ∷ line) = is_blank b ≡ false
