-- Numerals are made of digits.
use Rattle.std.proofs.Common.{◌≡◌, ℕ, true, List, [], ◌∷◌}
use Rattle.std.specs.List.{list_all}
use Rattle.hp_base.specs.Bytes.{is_digit}
use Rattle.hp_lexer.specs.Spelling.{IsNumeral}

pub numeral_digits : (w : List ℕ) → IsNumeral w → list_all is_digit w ≡ true
numeral_digits [] h = absurd h
numeral_digits (b ∷ w) h = h
