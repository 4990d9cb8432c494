-- The names of memories and instances.
use Rattle.std.specs.Prelude.{◌≡◌, ◌<◌, ◌^◌, ℕ, nat_eq, if◌then◌else◌, List, [], ◌∷◌, ◌++◌, take, decimal}

-- the sign that no name of a source text holds
abbrev pub dollar : ℕ
dollar = 36

-- the part of a name before the sign
abbrev pub stem : List ℕ → List ℕ
stem [] = []
stem (b ∷ bs) = if nat_eq b dollar then [] else b ∷ stem bs

-- That part, then the sign with a letter, and a place in decimal. A name has at most 270 bytes; neither bound comes to bear, since a name of
-- a source text has at most 255, and fewer than 10^13 equations fit into memory.
abbrev pub made_name : List ℕ → ℕ → ℕ → List ℕ
made_name x letter place = take 255 (stem x) ++ (dollar ∷ letter ∷ take 13 (decimal place))

-- The names that are made at two places among fewer than 10^13 differ, and so do those of two letters.
abbrev pub NamesDiffer : Type 0
NamesDiffer = (x y : List ℕ) (letter other i k : ℕ) → i < 10 ^ 13 → k < 10 ^ 13 → made_name x letter i ≡ made_name y other k → (letter ≡ other) × (i ≡ k)
