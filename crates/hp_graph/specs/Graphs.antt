-- Graphs that are given by their edges, and what an order and a cycle of one are.
-- Source: depth-first search by Tarjan (1972).
use Rattle.std.specs.Prelude.{ℕ, ◌<◌, ◌≡◌, ⊤, List, [], ◌∷◌, length, get_or, All, Contains}
use Rattle.hp_graph.specs.declared.sorted.Sorted.{Sorted}
use Rattle.hp_graph.specs.declared.sorted.Sorted.TheVariants.{Ranks, Cycle}

-- The ends of each edge are vertices, which are numbered from 0.
abbrev pub AreWithin : ℕ → List (ℕ × ℕ) → Type 0
AreWithin count edges = All (λ e. (e.0 < count) × (e.1 < count)) edges

-- An edge leads from one vertex to another.
abbrev pub IsEdge : List (ℕ × ℕ) → ℕ → ℕ → Type 0
IsEdge edges a b = Contains edges (a, b)

-- Edges lead from a vertex through others, one after another, to an end.
abbrev pub Leads : List (ℕ × ℕ) → ℕ → List ℕ → ℕ → Type 0
Leads edges a [] end = IsEdge edges a end
Leads edges a (b ∷ bs) end = IsEdge edges a b × Leads edges b bs end

-- The vertex is none of these.
abbrev pub IsNone : List ℕ → ℕ → Type 0
IsNone [] a = ⊤
IsNone (b ∷ bs) a = (b ≡ a → ⊥) × IsNone bs a

abbrev pub AreDistinct : List ℕ → Type 0
AreDistinct [] = ⊤
AreDistinct (a ∷ others) = IsNone others a × AreDistinct others

-- Edges lead from the first vertex through the others back to it, and no vertex stands twice.
abbrev pub IsCycle : List (ℕ × ℕ) → List ℕ → Type 0
IsCycle edges [] = ⊥
IsCycle edges (a ∷ others) = Leads edges a others a × AreDistinct (a ∷ others)

-- The ranks of vertices fall along edges.
abbrev pub RanksAlong : List (ℕ × ℕ) → List ℕ → Type 0
RanksAlong edges ranks = All (λ (e : ℕ × ℕ). get_or ranks e.1 0 < get_or ranks e.0 0) edges

-- Each vertex has a rank, and each edge leads to a vertex of less rank.
pub record AreRanks (count : ℕ) (edges : List (ℕ × ℕ)) (ranks : List ℕ) : Type 0 where
  pub one_each : length ranks ≡ count
  pub below : All (λ r. r < count) ranks
  pub falls : RanksAlong edges ranks

abbrev pub IsSorted : ℕ → List (ℕ × ℕ) → Sorted → Type 0
IsSorted count edges (Ranks ranks) = AreRanks count edges ranks.items
IsSorted count edges (Cycle cycle) = IsCycle edges cycle.items × All (λ v. v < count) cycle.items

-- of a graph that is given by its edges alone: ranks that fall along all edges, or a cycle
abbrev pub IsSortedBy : List (ℕ × ℕ) → Sorted → Type 0
IsSortedBy edges (Ranks ranks) = RanksAlong edges ranks.items
IsSortedBy edges (Cycle cycle) = IsCycle edges cycle.items
