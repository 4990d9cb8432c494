-- The points of a cycle of vertices: by their numbers, turned, and named.
use Rattle.std.specs.Prelude.{ℕ, zero, suc, ◌+◌, ◌≤◌, nat_eq, if◌then◌else◌, ⊤, List, [], ◌∷◌, ◌++◌, Option, None, Some}
use Rattle.hp_meaning.specs.declared.causal.point.Point.{Point}
use Rattle.hp_cause.specs.Gathering.{in_list}

-- where a vertex stands first among the vertices of points, which are numbered from k on
abbrev pub first_at : ℕ → List ℕ → ℕ → Option ℕ
first_at k [] v = None
first_at k (u ∷ us) v = if nat_eq u v then Some k else first_at (k + 1) us v

-- the numbers of the points among some vertices
abbrev pub numbers_of : List ℕ → List ℕ → List ℕ
numbers_of vs [] = []
numbers_of vs (v ∷ c) = in_list (first_at 0 vs v) ++ numbers_of vs c

-- the points of some numbers
abbrev pub point_by : List Point → ℕ → List Point
point_by [] i = []
point_by (p ∷ ps) zero = p ∷ []
point_by (p ∷ ps) (suc i) = point_by ps i

abbrev pub picked : List Point → List ℕ → List Point
picked points [] = []
picked points (i ∷ is) = point_by points i ++ picked points is

abbrev pub NoneBelow : ℕ → List ℕ → Type 0
NoneBelow k [] = ⊤
NoneBelow k (i ∷ is) = (k ≤ i) × NoneBelow k is
