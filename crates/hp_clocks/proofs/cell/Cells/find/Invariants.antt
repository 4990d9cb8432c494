use Rattle.std.proofs.Common.{◌≡◌, ◌<◌, length}
use Rattle.hp_clocks.specs.Cells.{Clocks, Fits, told_at, turns}
use Rattle.hp_clocks.proofs.cell.Cells.find.Given as goal

abbrev pub invariant-loop-next : goal.invariant-loop-next
invariant-loop-next l =
    (l.found < length l.self.cells.items) × ((at : Clocks) → Fits (told_at l.self.cells.items) at → at l.found ≡ at l.number)

abbrev pub decreases-loop-next : goal.decreases-loop-next
decreases-loop-next l = turns l.self.cells.items l.found
