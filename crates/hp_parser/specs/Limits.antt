-- Limits that may be there or not.
use Rattle.std.specs.Prelude.{ℕ, suc, ◌-◌, nat_le, Bool, true, Option, None, Some}

-- one more may be taken of a number
abbrev pub has_one : Option ℕ → Bool
has_one None = true
has_one (Some n) = nat_le 1 n

-- what is left of a number where some are taken
abbrev pub less : Option ℕ → ℕ → Option ℕ
less None taken = None
less (Some n) taken = Some (n - taken)

-- there may be a level within
abbrev pub has_two : Option ℕ → Bool
has_two None = true
has_two (Some n) = nat_le 2 n

-- there may be a level above something of this height
abbrev pub has_above : Option ℕ → ℕ → Bool
has_above None height = true
has_above (Some n) height = nat_le (suc (suc height)) n
