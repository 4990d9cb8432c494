-- What one fact says of the graph.
use Rattle.std.specs.Prelude.{ℕ, List, [], ◌∷◌}
use Rattle.hp_cause.specs.Facts.{Fact, stands, reads, depends}

abbrev pub read_edge : Fact → List (ℕ × ℕ)
read_edge (stands p v) = []
read_edge (reads v u) = (v, u) ∷ []
read_edge (depends v u) = []

abbrev pub dependence_edge : Fact → List (ℕ × ℕ)
dependence_edge (stands p v) = []
dependence_edge (reads v u) = (v, u) ∷ []
dependence_edge (depends v u) = (v, u) ∷ []

abbrev pub vertex_of : Fact → List ℕ
vertex_of (stands p v) = v ∷ []
vertex_of (reads v u) = []
vertex_of (depends v u) = []
