use Rattle.std.proofs.Common.{◌≡◌, ◌<◌, ◌≤◌, ◌+◌, length}
use Rattle.hp_clocks.specs.Cells.{turns}
use Rattle.hp_clocks.specs.Solved.{clock_read}
use Rattle.hp_clocks.proofs.length.length.Given as goal

abbrev pub invariant-loop-count : goal.invariant-loop-count
invariant-loop-count l =
    (l.at < length l.cells.cells.items) × (l.count ≤ 65) × (l.count + length (clock_read l.cells.cells.items l.at) ≡ length (clock_read l.cells.cells.items l.clock))

abbrev pub decreases-loop-count : goal.decreases-loop-count
decreases-loop-count l = turns l.cells.cells.items l.at
