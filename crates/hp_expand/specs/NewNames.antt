-- The names of new variables.
use Rattle.std.specs.Prelude.{ℕ, min, Bool, true, false, nat_eq, if◌then◌else◌, List, [], ◌∷◌, ◌++◌, take, decimal}

-- the sign that no name of a source text holds
abbrev pub dollar : ℕ
dollar = 36

abbrev pub is_new : List ℕ → Bool
is_new [] = false
is_new (b ∷ bs) = if nat_eq b dollar then true else is_new bs

-- the part of a name before the sign
abbrev pub stem : List ℕ → List ℕ
stem [] = []
stem (b ∷ bs) = if nat_eq b dollar then [] else b ∷ stem bs

-- The first bytes of a name, at most so many, then the sign and a number of at most six digits. Neither bound comes to bear: a name of
-- a source text has at most 255 bytes, a node whose counts are within the limits at most 60,000 variables, and a text of 1 MiB has not
-- room for 100,000 calls.
abbrev pub with_number : ℕ → List ℕ → ℕ → List ℕ
with_number room x k = take room x ++ (dollar ∷ decimal (min 999999 k))

-- the name of the new variable with this number
abbrev pub numbered_name : List ℕ → ℕ → List ℕ
numbered_name x k = with_number 255 (stem x) k

-- The variables of the node whose call has this number, told from all others of the block until they are numbered. The names of that
-- node may have numbers already.
abbrev pub marked : ℕ → List ℕ → List ℕ
marked k x = with_number 262 x k
