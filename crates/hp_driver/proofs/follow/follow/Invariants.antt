use Rattle.std.proofs.Common.{◌-◌, ◌*◌, ◌<◌, List, length}
use Rattle.hp_io.specs.declared.console.Event.{Event}
use Rattle.hp_io.specs.Faults.{Same}
use Rattle.hp_io.specs.Told.{Grows, Loses}
use Rattle.hp_driver.specs.Course.{weight}
use Rattle.hp_driver.specs.Hearing.{at, HasRoom}
use Rattle.hp_driver.specs.Log.{heard}
use Rattle.hp_driver.proofs.FollowLaws.{IsFollowing}
use Rattle.hp_driver.proofs.follow.follow.Given as goal

abbrev pub invariant-loop-count : goal.invariant-loop-count
invariant-loop-count g l =
    let console = g.C.Console in
    let reactor = g.R.Reactor in
    ((log : List Event) × Grows (console.events l.fn.console) (console.events l.console) log
    × Loses (console.left l.fn.console) (console.left l.console) (heard log)
    × IsFollowing reactor.machine l.fn.reactor log (at l.reactor l.hearing))
    × HasRoom l.hearing (reactor.room l.reactor)
    × (0 < length l.buffer)
    × Same (console.put_faults l.fn.console) (console.put_faults l.console)
    × Same (console.take_faults l.fn.console) (console.take_faults l.console)

abbrev pub decreases-loop-count : goal.decreases-loop-count
decreases-loop-count g l = 65537 * 1000000001 - weight (at l.reactor l.hearing)
