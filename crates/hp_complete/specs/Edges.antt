-- The graph of the equations of a node: each equation leads to what it reads, and each variable to the equations that define it.
use Rattle.std.specs.Prelude.{ℕ, ◌+◌, List, [], ◌∷◌, ◌++◌, map, get_or}
use Rattle.hp_flat.specs.Equations.{FlatEqn}
use Rattle.law_equations.specs.Meaning.Scheduling.{reads}

abbrev pub edges_to : ℕ → List ℕ → List (ℕ × ℕ)
edges_to v xs = map (λ x. (v, x)) xs

abbrev pub edges_from : ℕ → List ℕ → List (ℕ × ℕ)
edges_from v xs = map (λ x. (x, v)) xs

abbrev pub edges_of_eqn : ℕ → FlatEqn → List (ℕ × ℕ)
edges_of_eqn v e = edges_to v (reads e) ++ edges_from v e.targets

-- the equations are the vertices from a number on
abbrev pub edges_of : ℕ → List FlatEqn → List (ℕ × ℕ)
edges_of v [] = []
edges_of v (e ∷ es) = edges_of_eqn v e ++ edges_of (v + 1) es

-- the equations at the ranks of their vertices
abbrev pub placed : List ℕ → ℕ → List FlatEqn → List FlatEqn
placed ranks v [] = []
placed ranks v (e ∷ es) = record e { at = get_or ranks v 0 } ∷ placed ranks (v + 1) es
