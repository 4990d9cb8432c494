-- What the files of a folder hold.
use Rattle.std.specs.Prelude.{◌≡◌, ◌≢◌, ◌<◌, ◌⊎◌, ℕ, List, Some, length, take}
use Rattle.std.specs.Ordering.{nat_cmp}
use Rattle.std.specs.Cmp.Lexicographic.{slice_cmp}
use Rattle.std.specs.FinMap as map

-- from the bytes of each name to those that are held under it
abbrev pub Files : Type 0
Files = map.FinMap (slice_cmp nat_cmp) (List ℕ)

-- these bytes are held under the name
abbrev pub Holds : Files → List ℕ → List ℕ → Type 0
Holds files name bytes = map.get files name ≡ Some bytes

-- more bytes than these are held under the name
abbrev pub HoldsMoreThan : Files → List ℕ → ℕ → Type 0
HoldsMoreThan files name limit = (bytes : List ℕ) × Holds files name bytes × (limit < length bytes)

-- under every other name the same is held
abbrev pub SameElsewhere : Files → Files → List ℕ → Type 0
SameElsewhere before after name = (other : List ℕ) → other ≢ name → map.get after other ≡ map.get before other

-- under the name is what was there, or the first of these bytes
abbrev pub SameOrPrefix : Files → Files → List ℕ → List ℕ → Type 0
SameOrPrefix before after name bytes =
    (map.get after name ≡ map.get before name) ⊎ ((n : ℕ) × Holds after name (take n bytes))
