-- A walk over diagrams, which gives the order in which a certificate has their nodes.
-- Source: depth-first search by Tarjan (1972), a node visited behind its children.
use Rattle.std.specs.Prelude.{◌≡◌, ℕ, List, [], ◌∷◌, ◌++◌, Some, None, Contains}
use Rattle.hp_diagram.specs.declared.reference.Ref.{Ref}
use Rattle.hp_diagram.specs.declared.reference.Branch.{Branch}
use Rattle.hp_diagram.specs.Diagrams.{Diagrams, branch_of}

-- Nodes are told by their indices, in the order in which they are visited. A walk from a reference visits its node behind what it
-- visits from the two children, the low one first; it stops where there is no node, and at a node that it has visited.
pub data Walks (t : Diagrams) : List ℕ → Ref → List ℕ → Type 0 where
  leaf : {seen : List ℕ} {r : Ref} → branch_of t r ≡ None → Walks t seen r seen
  again : {seen : List ℕ} {r : Ref} → Contains seen r.index → Walks t seen r seen
  visit : {seen from_low from_high : List ℕ} {r : Ref} {b : Branch} → branch_of t r ≡ Some b → ¬ Contains seen r.index → Walks t seen b.low from_low → Walks t from_low b.high from_high → Walks t seen r (from_high ++ r.index ∷ [])

-- from some references, one after the other
abbrev pub WalksAll : Diagrams → List ℕ → List Ref → List ℕ → Type 0
WalksAll t seen [] after = after ≡ seen
WalksAll t seen (r ∷ rs) after = (between : List ℕ) × Walks t seen r between × WalksAll t between rs after
