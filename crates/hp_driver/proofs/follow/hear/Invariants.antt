use Rattle.std.proofs.Common.{◌≡◌, ◌+◌, ◌≤◌, ℕ, List, ◌++◌, length}
use Rattle.hp_io.specs.Faults.{Same}
use Rattle.hp_io.specs.Told.{Grows}
use Rattle.hp_io.specs.Events.{put_events}
use Rattle.hp_driver.specs.Course.{Moves, weight}
use Rattle.hp_driver.specs.Hearing.{at, HasRoom}
use Rattle.hp_driver.proofs.follow.hear.Given as goal

abbrev pub invariant-loop-length : goal.invariant-loop-length
invariant-loop-length g l =
    let console = g.C.Console in
    let reactor = g.R.Reactor in
    ((done : List ℕ) × (out : List ℕ) × (l.piece ≡ done ++ l.rest)
    × Grows (console.events l.fn.console) (console.events l.console) (put_events out)
    × Moves reactor.machine (at l.fn.reactor l.fn.hearing) done out (at l.reactor l.hearing)
    × (weight (at l.fn.reactor l.fn.hearing) + length done ≤ weight (at l.reactor l.hearing)))
    × HasRoom l.hearing (reactor.room l.reactor)
    × (reactor.room l.reactor ≡ reactor.room l.fn.reactor)
    × (console.left l.console ≡ console.left l.fn.console)
    × Same (console.put_faults l.fn.console) (console.put_faults l.console)
    × Same (console.take_faults l.fn.console) (console.take_faults l.console)

abbrev pub decreases-loop-length : goal.decreases-loop-length
decreases-loop-length g l = length l.rest
