-- The pieces of a text: words, and between them spaces and newlines, each by itself. A word is as long as it can be.
use Rattle.std.specs.Prelude.{ℕ, Bool, true, false, not, ◌||◌, ◌==◌, if◌then◌else◌, List, [], ◌∷◌, ◌++◌}

abbrev pub Piece : Type 0
Piece = List ℕ

abbrev pub Pieces : Type 0
Pieces = List Piece

-- a space or a newline
abbrev pub is_gap : ℕ → Bool
is_gap b = b == 32 || b == 10

-- a byte of a word in front of the pieces of the rest: it is in their first word, where that begins at once
abbrev pub in_word : ℕ → Bool → Pieces → Pieces
in_word b true (w ∷ ws) = (b ∷ w) ∷ ws
in_word b joins ws = (b ∷ []) ∷ ws

abbrev pub begins_word : List ℕ → Bool
begins_word [] = false
begins_word (b ∷ text) = not (is_gap b)

abbrev pub pieces : List ℕ → Pieces
pieces [] = []
pieces (b ∷ text) = if is_gap b then (b ∷ []) ∷ pieces text else in_word b (begins_word text) (pieces text)

-- the text of some pieces
abbrev pub joined : Pieces → List ℕ
joined [] = []
joined (p ∷ ps) = p ++ joined ps
