-- Lines in the one order in which the lines of given functions stand.
-- Source: reduced diagrams by Bryant (1986), visited by depth-first search as by Tarjan (1972), a node behind its children.
use Rattle.std.specs.Prelude.{◌≡◌, ℕ, suc, ◌+◌, ◌<◌, ◌≤◌, List, [], ◌∷◌, length, map, slice_get, Some}
use Rattle.hp_diagram.specs.Diagrams.{Diagrams, IsReduced}
use Rattle.hp_quant.specs.declared.line.Line.{Line}
use Rattle.hp_quant.specs.Lines.{node_of}

-- lines as diagrams of so many variables: 0 is false, 1 is true, and 2 is the first line
abbrev pub diagrams_of : ℕ → List Line → Diagrams
diagrams_of vars lines = record { vars = vars; nodes = map node_of lines; answers = [] }

-- A walk from a reference, where all references below the first number were seen before: the lines from there up to the second number are visited, in their order, and no others.
-- Nothing is visited from a reference that was seen, and false and true always were. A line is visited behind what is visited from its low reference, and then from its high one.
pub data Walks (lines : List Line) : ℕ → ℕ → ℕ → Type 0 where
  seen : {from r : ℕ} → r < from → Walks lines from r from
  visit : {from between k : ℕ} {l : Line} → slice_get lines k ≡ Some l → from ≤ suc (suc k) → Walks lines from l.low between → Walks lines between l.high (suc (suc k)) → Walks lines from (suc (suc k)) (suc (suc (suc k)))

-- from some references, one after the other
abbrev pub WalksAll : List Line → ℕ → List ℕ → ℕ → Type 0
WalksAll lines from [] end = end ≡ from
WalksAll lines from (r ∷ rs) end = (between : ℕ) × Walks lines from r between × WalksAll lines between rs end

-- Lines are the canonical ones of these references: no two of them have one function, variables grow along each path, and a walk from the references visits all lines in their order.
pub record AreCanonical (vars : ℕ) (lines : List Line) (references : List ℕ) : Type 0 where
  pub reduced : IsReduced (diagrams_of vars lines)
  pub walk : WalksAll lines 2 references (length lines + 2)
