-- When the words of a text are words of the grammar.
use Rattle.std.specs.Prelude.{◌≡◌, ℕ, true, List, [], ◌∷◌, Some}
use Rattle.hp_obc.specs.Form.{is_name, is_constructor}
use Rattle.hp_lines.specs.Numbers.{number_of}
use Rattle.hp_obctext.specs.Outcomes.{Words}
use Rattle.hp_obctext.specs.Words.{Word, leading, fixed, small, capital, number}

-- Bytes are a word of the grammar. A number may have needless zeros, and a minus in front of 0.
abbrev pub IsSpelling : List ℕ → Word → Type 0
IsSpelling u (leading w) = u ≡ w
IsSpelling u (fixed w) = u ≡ w
IsSpelling u (small x) = (u ≡ x) × (is_name x ≡ true)
IsSpelling u (capital x) = (u ≡ x) × (is_constructor x ≡ true)
IsSpelling u (number n) = number_of u ≡ Some n

-- The words in front are some words of the grammar, and `rest` stands behind them.
abbrev pub Takes : Words → List Word → Words → Type 0
Takes us [] rest = us ≡ rest
Takes [] (w ∷ ws) rest = ⊥
Takes (u ∷ us) (w ∷ ws) rest = IsSpelling u w × Takes us ws rest

-- The words of a text are these words of the grammar.
abbrev pub Spell : Words → List Word → Type 0
Spell us ws = Takes us ws []
