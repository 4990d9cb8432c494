use Rattle.std.proofs.Common.{◌≡◌, ◌<◌, ◌++◌, length}
use Rattle.hp_clocks.specs.Cells.{turns}
use Rattle.hp_clocks.specs.Solved.{clock_read}
use Rattle.hp_clocks.proofs.write.steps_of.Given as goal

abbrev pub invariant-loop-next : goal.invariant-loop-next
invariant-loop-next l =
    (l.at < length l.cells.cells.items) × (l.path.items ++ clock_read l.cells.cells.items l.at ≡ clock_read l.cells.cells.items l.clock)

abbrev pub decreases-loop-next : goal.decreases-loop-next
decreases-loop-next l = turns l.cells.cells.items l.at
