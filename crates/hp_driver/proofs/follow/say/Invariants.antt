use Rattle.std.proofs.Common.{length, ◌-◌, ◌≡◌, ◌≤◌, take}
use Rattle.hp_io.specs.Faults.{Same}
use Rattle.hp_io.specs.Told.{Grows}
use Rattle.hp_io.specs.Events.{put_events}
use Rattle.hp_driver.proofs.follow.say.Given as goal

abbrev pub invariant-loop-done : goal.invariant-loop-done
invariant-loop-done g l =
    let console = g.C.Console in
    (l.done ≤ length l.text)
    × Grows (console.events l.fn.console) (console.events l.console) (put_events (take l.done l.text))
    × (console.left l.console ≡ console.left l.fn.console)
    × Same (console.put_faults l.fn.console) (console.put_faults l.console)
    × Same (console.take_faults l.fn.console) (console.take_faults l.console)

abbrev pub decreases-loop-done : goal.decreases-loop-done
decreases-loop-done g l = length l.text - l.done
