-- A node whose clocks are solved.
use Rattle.std.specs.Prelude.{ℕ, suc, ◌<◌, ◌≡◌, List, map, length, All}
use Rattle.hp_tree.specs.Programs.{Node}
use Rattle.hp_tree.specs.Instant.{Clock}
use Rattle.hp_meaning.specs.Clocking.Terms.{IsShortest}
use Rattle.hp_meaning.specs.Clocking.Clocking.{Assignment, IsAllowed}
use Rattle.hp_clocks.specs.declared.cell.Cell.{Cell}
use Rattle.hp_clocks.specs.declared.solve.Solution.{Solution}
use Rattle.hp_clocks.specs.Cells.{told_at, steps, AreCells}
use Rattle.hp_clocks.specs.Listed.{locals_of_node, rights_of_node}

-- the clock that is read from a cell, where what is open is on the base clock
abbrev pub clock_read : List Cell → ℕ → Clock
clock_read cells i = steps (suc (length cells)) (told_at cells) i

-- The cells tell the shortest clocks of the node: those of its locals and of its right sides, in the order of the text.
pub record IsSolved (n : Node) (s : Solution) : Type 0 where
  pub at : Assignment
  pub shortest : IsShortest (IsAllowed n) at
  pub cells : AreCells s.cells.cells.items
  pub locals_there : All (λ i. i < length s.cells.cells.items) s.locals.items
  pub rights_there : All (λ r. r.0 < length s.cells.cells.items) s.rights.items
  pub locals : map (clock_read s.cells.cells.items) s.locals.items ≡ locals_of_node at n
  pub rights : map (λ r. (clock_read s.cells.cells.items r.0, r.1.now)) s.rights.items ≡ rights_of_node at n
