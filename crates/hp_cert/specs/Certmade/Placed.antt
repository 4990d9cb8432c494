-- Lists of nodes in which children stand before their parents.
use Rattle.std.specs.Prelude.{◌≡◌, ℕ, ◌+◌, ◌<◌, List, slice_get, Some}
use Rattle.hp_diagram.specs.declared.reference.Branch.{Branch}
use Rattle.hp_diagram.specs.Diagrams.{Diagrams, branch_at}
use Rattle.hp_quant.specs.declared.line.Line.{Line}

-- an index is that of a node
abbrev pub HasNode : Diagrams → ℕ → Type 0
HasNode t i = (b : Branch) × (branch_at t.nodes i ≡ Some b)

-- lines refer to false, true and earlier lines
abbrev pub RefersBack : List Line → Type 0
RefersBack lines = (k : ℕ) (l : Line) → slice_get lines k ≡ Some l → (l.low < k + 2) × (l.high < k + 2)
