use Rattle.std.proofs.Common.{◌≡◌, ◌<◌, length}
use Rattle.hp_clocks.specs.Cells.{end_at, turns}
use Rattle.hp_clocks.proofs.cell.Cells.end.Given as goal

abbrev pub invariant-loop-next : goal.invariant-loop-next
invariant-loop-next l =
    (l.found < length l.self.cells.items) × (end_at l.self.cells.items l.found ≡ end_at l.self.cells.items l.number)

abbrev pub decreases-loop-next : goal.decreases-loop-next
decreases-loop-next l = turns l.self.cells.items l.found
