-- Wires, and what they read, in the order of ranks: words for the contracts of private functions.
-- Source: own.
use Rattle.std.specs.Prelude.{ℕ, ◌<◌, ◌≡◌, ⊤, List, length, slice_index_or, All, Contains}
use Rattle.std.specs.List.Sorted.{IsNonDecreasingBy}
use Rattle.hp_graph.specs.Graphs.{IsCycle}
use Rattle.hp_circuit.specs.declared.error.CircuitErr.{CircuitErr}
use Rattle.hp_circuit.specs.declared.error.CircuitErr.TheVariants as error
use Rattle.hp_circuit.specs.declared.circuit.Wire.{Wire}
use Rattle.hp_circuit.specs.Forms.{wire_at}
use Rattle.hp_circuit.specs.Making.{AtReads}

-- why wires have no ranks: they read each other in a circle, or memory is wanting
abbrev pub IsUnranked : List (ℕ × ℕ) → CircuitErr → Type 0
IsUnranked edges error.NoCircuit = (wires : List ℕ) × IsCycle edges wires
IsUnranked edges error.OutOfMemory = ⊤
IsUnranked edges error.Steered = ⊥
IsUnranked edges (error.Limit limit) = ⊥

-- Each wire stands in the order once with its rank, and ranks do not fall.
pub record AreByRank (ranks : List ℕ) (order : List (ℕ × ℕ)) : Type 0 where
  pub own : All (λ p. (p.1 < length ranks) × (p.0 ≡ slice_index_or ranks p.1 0)) order
  pub whole : (w : ℕ) → w < length ranks → Contains order (slice_index_or ranks w 0, w)
  pub rising : IsNonDecreasingBy (λ p. p.0) order

-- the wire is one of the first of an order
abbrev pub IsAmong : List (ℕ × ℕ) → ℕ → ℕ → Type 0
IsAmong order many w = (k : ℕ) × (k < many) × ((slice_index_or order k (0, 0)).1 ≡ w)

-- The order has all wires, and each comes behind those that give it its value.
pub record AreInOrder (wires : List Wire) (order : List (ℕ × ℕ)) : Type 0 where
  pub within : All (λ p. p.1 < length wires) order
  pub whole : (w : ℕ) → w < length wires → IsAmong order (length order) w
  pub behind : (i : ℕ) → i < length order → AtReads (IsAmong order i) (wire_at wires (slice_index_or order i (0, 0)).1)

-- Each edge stands behind the rank of the wire that reads, and ranks do not fall.
pub record AreEdgesByRank (edges : List (ℕ × ℕ)) (ranks : List ℕ) (sorted : List (ℕ × ℕ × ℕ)) : Type 0 where
  pub within : All (λ e. (e.1 < length ranks) × (e.2 < length ranks)) sorted
  pub are : All (λ e. Contains edges (e.1, e.2)) sorted
  pub own : All (λ e. e.0 ≡ slice_index_or ranks e.1 0) sorted
  pub whole : All (λ e. Contains sorted (slice_index_or ranks e.0 0, e.0, e.1)) edges
  pub rising : IsNonDecreasingBy (λ e. e.0) sorted

-- Each edge stands behind the rank of the wire that reads, which is above that of the wire that is read, and ranks do not fall.
pub record AreFalling (ranks : List ℕ) (sorted : List (ℕ × ℕ × ℕ)) : Type 0 where
  pub own : All (λ e. e.0 ≡ slice_index_or ranks e.1 0) sorted
  pub falls : All (λ e. slice_index_or ranks e.2 0 < slice_index_or ranks e.1 0) sorted
  pub rising : IsNonDecreasingBy (λ e. e.0) sorted
