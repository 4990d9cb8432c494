-- The lines of a trace.
use Rattle.std.specs.Prelude.{◌≡◌, ℕ, ◌+◌, Bool, false, ◌||◌, ◌==◌, nat_le, nat_lt, if◌then◌else◌, List, [], ◌∷◌, ◌++◌, length}

-- a byte in front of the first of some lines; where there is none, its line has no end yet
abbrev pub in_first : ℕ → List (List ℕ) → List (List ℕ)
in_first b [] = []
in_first b (line ∷ lines) = (b ∷ line) ∷ lines

-- the lines that end with a newline, each without it
abbrev pub whole_lines : List ℕ → List (List ℕ)
whole_lines [] = []
whole_lines (b ∷ bytes) = if b == 10 then [] ∷ whole_lines bytes else in_first b (whole_lines bytes)

-- a byte in front of the last piece, where no line ends behind it
abbrev pub in_last : ℕ → List (List ℕ) → List ℕ → List ℕ
in_last b [] piece = b ∷ piece
in_last b (line ∷ lines) piece = piece

-- what stands behind the last newline
abbrev pub last_piece : List ℕ → List ℕ
last_piece [] = []
last_piece (b ∷ bytes) = if b == 10 then last_piece bytes else in_last b (whole_lines bytes) (last_piece bytes)

-- A last piece is a line where the input has ended, and before that as soon as it is too long, or begins a line too many behind n lines.
abbrev pub last_line : Bool → ℕ → List ℕ → List (List ℕ)
last_line ended n [] = []
last_line ended n (b ∷ piece) =
    if ended || nat_lt 65536 (length (b ∷ piece)) || nat_le 1000000000 n then (b ∷ piece) ∷ [] else []

-- the lines of a trace of which these bytes were heard behind n lines, where the input has ended or goes on
abbrev pub lines_behind : ℕ → Bool → List ℕ → List (List ℕ)
lines_behind n ended bytes = whole_lines bytes ++ last_line ended (n + length (whole_lines bytes)) (last_piece bytes)

-- the lines of a trace of which these bytes were heard
abbrev pub lines_of : Bool → List ℕ → List (List ℕ)
lines_of ended bytes = lines_behind 0 ended bytes

-- no byte is a newline
abbrev pub IsPiece : List ℕ → Type 0
IsPiece [] = Unit {0}
IsPiece (b ∷ bytes) = ((b == 10) ≡ false) × IsPiece bytes
