-- Decimal numbers in the range of 32 bits.
use Rattle.std.specs.Prelude.{ℕ, ◌+◌, ◌*◌, ◌-◌, Bool, ◌&&◌, not, ◌==◌, nat_le, nat_lt, if◌then◌else◌, List, [], ◌∷◌, length, fold, Option, None, Some, option_and_then, ℤ, pos, negsuc, neg_ℤ}
use Rattle.std.specs.List.{list_all}
use Rattle.hp_base.specs.Bytes.{is_digit}

-- a digit behind a number
abbrev pub with_digit : ℕ → ℕ → ℕ
with_digit n b = 10 * n + (b - 48)

-- the number that decimal digits spell; there may be zeros in front
abbrev pub digits_number : List ℕ → ℕ
digits_number digits = fold with_digit 0 digits

-- the number that a word of digits alone spells
abbrev pub natural_of : List ℕ → Option ℕ
natural_of w = if not (length w == 0) && list_all is_digit w then Some (digits_number w) else None

-- a number in the range of 32 bits
abbrev pub in_range : ℤ → Option ℤ
in_range (pos n) = if nat_lt n 2147483648 then Some (pos n) else None
in_range (negsuc n) = if nat_lt n 2147483648 then Some (negsuc n) else None

-- the number that a word spells: digits, and a minus in front of them or none
abbrev pub number_of : List ℕ → Option ℤ
number_of [] = None
number_of (b ∷ w) =
    if b == 45 then option_and_then (λ n. in_range (neg_ℤ (pos n))) (natural_of w) else option_and_then (λ n. in_range (pos n)) (natural_of (b ∷ w))
