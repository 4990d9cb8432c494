-- The order in which wires get their gates: by level, and at one level by number. The circuit determines it.
-- Source: the levels of a network, as in logic synthesis (De Micheli, 1994).
use Rattle.std.specs.Prelude.{ℕ, suc, ◌+◌, ◌<◌, ◌≡◌, ◌⊎◌, nat_lt, if◌then◌else◌, List, [], ◌∷◌, length, slice_index_or, slice_set, All, Contains}
use Rattle.std.specs.List.Sorted.{IsPermutation, IsSorted}
use Rattle.std.specs.Ordering.{nat_cmp, ordering_then}

abbrev pub level_at : List ℕ → ℕ → ℕ
level_at levels w = slice_index_or levels w 0

-- Each wire stands above those that it reads, and no higher than it must.
pub record AreLevels (edges : List (ℕ × ℕ)) (levels : List ℕ) : Type 0 where
  pub above : All (λ (e : ℕ × ℕ). level_at levels e.1 < level_at levels e.0) edges
  pub least : (w : ℕ) → (level_at levels w ≡ 0) ⊎ ((r : ℕ) × Contains edges (w, r) × (level_at levels w ≡ suc (level_at levels r)))

-- numbers from one on, each behind its level
abbrev pub numbered_from : ℕ → List ℕ → List (ℕ × ℕ)
numbered_from i [] = []
numbered_from i (level ∷ levels) = (level, i) ∷ numbered_from (i + 1) levels

-- Numbers stand behind their levels, and in this order.
pub record AreSorted (levels : List ℕ) (order : List (ℕ × ℕ)) : Type 0 where
  pub same : IsPermutation (numbered_from 0 levels) order
  pub rising : IsSorted (λ x y. ordering_then (nat_cmp x.0 y.0) (nat_cmp x.1 y.1)) order

-- So stand so many wires, which read each other along edges.
pub record IsByLevel (edges : List (ℕ × ℕ)) (many : ℕ) (order : List (ℕ × ℕ)) : Type 0 where
  pub levels : List ℕ
  pub as_many : length levels ≡ many
  pub are : AreLevels edges levels
  pub sorted : AreSorted levels order

-- ---- words for the contracts of private functions

-- a wire is lifted above one that it reads
abbrev pub lifted : List ℕ → ℕ → ℕ → List ℕ
lifted levels reader read = if nat_lt (level_at levels reader) (level_at levels read + 1) then slice_set levels reader (level_at levels read + 1) else levels

-- the wire that reads, and the one that is read, of an edge behind a rank
abbrev pub reader_of : List (ℕ × ℕ × ℕ) → ℕ → ℕ
reader_of edges k = (slice_index_or edges k (0, 0, 0)).1

abbrev pub read_of : List (ℕ × ℕ × ℕ) → ℕ → ℕ
read_of edges k = (slice_index_or edges k (0, 0, 0)).2

-- The levels are those of the first edges.
pub record AreLifted (edges : List (ℕ × ℕ × ℕ)) (many : ℕ) (levels : List ℕ) : Type 0 where
  pub above : (k : ℕ) → k < many → level_at levels (read_of edges k) < level_at levels (reader_of edges k)
  pub least : (w : ℕ) → (level_at levels w ≡ 0) ⊎ ((k : ℕ) × (k < many) × (reader_of edges k ≡ w) × (level_at levels w ≡ suc (level_at levels (read_of edges k))))
