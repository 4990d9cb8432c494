-- Numbers in bits, most significant first.
use Rattle.std.specs.Prelude.{ℕ, zero, suc, ◌+◌, ◌-◌, nat_le, Bool, true, false, not, if◌then◌else◌, List, [], ◌∷◌, length}

abbrev pub pow2 : ℕ → ℕ
pow2 zero = 1
pow2 (suc w) = pow2 w + pow2 w

-- the least number of bits for some values, at least those that were tried
abbrev pub width_from : ℕ → ℕ → ℕ → ℕ
width_from zero w m = w
width_from (suc tries) w m = if nat_le m (pow2 w) then w else width_from tries (suc w) m

abbrev pub width : ℕ → ℕ
width m = width_from m 0 m

-- a number in so many bits
abbrev pub to_bits : ℕ → ℕ → List Bool
to_bits zero k = []
to_bits (suc w) k = nat_le (pow2 w) k ∷ to_bits w (if nat_le (pow2 w) k then k - pow2 w else k)

abbrev pub number : List Bool → ℕ
number [] = 0
number (b ∷ bs) = (if b then pow2 (length bs) else 0) + number bs

-- whether two lists of bits are the same
abbrev pub are_same : List Bool → List Bool → Bool
are_same [] ys = true
are_same (x ∷ xs) [] = true
are_same (x ∷ xs) (y ∷ ys) = if (if x then not y else y) then false else are_same xs ys

-- whether bits are given ones, or spell a number below theirs; the first answer is where the given bit is set and theirs is not, the other where nothing differs
abbrev pub compared : Bool → Bool → List Bool → List Bool → Bool
compared less equal xs [] = equal
compared less equal [] (n ∷ ns) = equal
compared less equal (x ∷ xs) (n ∷ ns) =
    if n then (if x then compared less equal xs ns else less) else (if x then false else compared less equal xs ns)
