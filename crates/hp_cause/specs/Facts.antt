-- What is gathered from a node, in the order of its text: its points with their vertices, and which vertex reads which, or depends on it besides.
use Rattle.std.specs.Prelude.{ℕ, List, [], ◌∷◌, ◌++◌, Option, None, Some}
use Rattle.hp_base.specs.declared.span.Span.{Span}
use Rattle.hp_meaning.specs.declared.causal.point.Point.{Point}
use Rattle.hp_meaning.specs.declared.causal.point.PointKind.{PointKind}

pub data Fact : Type 0 where
  -- the next point is this vertex
  stands : Point → ℕ → Fact
  -- the first reads the second
  reads : ℕ → ℕ → Fact
  -- the first depends on the second without reading it
  depends : ℕ → ℕ → Fact

-- What has no vertex reads nothing, and is not read. (They are unfolded where that is said.)
unfoldable pub stand : PointKind → List ℕ → Span → Option ℕ → List Fact
stand kind x at None = []
stand kind x at (Some v) = stands (record { kind = kind; name = x; span = at }) v ∷ []

unfoldable pub read : Option ℕ → Option ℕ → List Fact
read None o = []
read (Some v) None = []
read (Some v) (Some u) = reads v u ∷ []

unfoldable pub depend : Option ℕ → Option ℕ → List Fact
depend None o = []
depend (Some v) None = []
depend (Some v) (Some u) = depends v u ∷ []

-- each of some vertices reads one
abbrev pub read_by_all : List ℕ → Option ℕ → List Fact
read_by_all [] o = []
read_by_all (v ∷ vs) o = read (Some v) o ++ read_by_all vs o

-- ---- what the facts say

-- the points, in order, and their vertices
abbrev pub points_in : List Fact → List Point
points_in [] = []
points_in (stands p v ∷ facts) = p ∷ points_in facts
points_in (reads v u ∷ facts) = points_in facts
points_in (depends v u ∷ facts) = points_in facts

abbrev pub vertices_in : List Fact → List ℕ
vertices_in [] = []
vertices_in (stands p v ∷ facts) = v ∷ vertices_in facts
vertices_in (reads v u ∷ facts) = vertices_in facts
vertices_in (depends v u ∷ facts) = vertices_in facts

-- the edges of reads, and those of all dependences
abbrev pub reads_in : List Fact → List (ℕ × ℕ)
reads_in [] = []
reads_in (stands p v ∷ facts) = reads_in facts
reads_in (reads v u ∷ facts) = (v, u) ∷ reads_in facts
reads_in (depends v u ∷ facts) = reads_in facts

abbrev pub dependences_in : List Fact → List (ℕ × ℕ)
dependences_in [] = []
dependences_in (stands p v ∷ facts) = dependences_in facts
dependences_in (reads v u ∷ facts) = (v, u) ∷ dependences_in facts
dependences_in (depends v u ∷ facts) = (v, u) ∷ dependences_in facts
