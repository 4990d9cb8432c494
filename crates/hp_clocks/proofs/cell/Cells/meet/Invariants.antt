use Rattle.std.proofs.Common.{◌<◌, ◌+◌, length}
use Rattle.hp_clocks.specs.Cells.{Alike, turns}
use Rattle.hp_clocks.proofs.cell.Cells.meet.Given as goal

abbrev pub invariant-loop-left : goal.invariant-loop-left
invariant-loop-left l =
    (l.left < length l.self.cells.items) × (l.right < length l.self.cells.items) × Alike l.self.cells.items l.a l.b l.left l.right

abbrev pub decreases-loop-left : goal.decreases-loop-left
decreases-loop-left l = turns l.self.cells.items l.left + turns l.self.cells.items l.right
