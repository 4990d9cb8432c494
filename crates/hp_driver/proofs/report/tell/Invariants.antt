use Rattle.std.proofs.Common.{length, ◌-◌, ◌≤◌, take}
use Rattle.hp_io.specs.Faults.{Same}
use Rattle.hp_io.specs.Told.{Grows}
use Rattle.hp_driver.proofs.report.tell.Given as goal

abbrev pub invariant-loop-done : goal.invariant-loop-done
invariant-loop-done g l =
    let sink = g.E.Sink in
    (l.done ≤ length l.text)
    × Grows (sink.took l.fn.diag) (sink.took l.diag) (take l.done l.text)
    × Same (sink.faults l.fn.diag) (sink.faults l.diag)

abbrev pub decreases-loop-done : goal.decreases-loop-done
decreases-loop-done g l = length l.text - l.done
