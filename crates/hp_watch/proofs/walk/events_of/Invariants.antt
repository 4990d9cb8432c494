use Rattle.std.proofs.Common.{◌≡◌, ◌++◌, drop}
use Rattle.hp_watch.specs.Walk.{events_from}
use Rattle.hp_watch.proofs.walk.events_of.Given as goal

abbrev pub invariant-loop-i : goal.invariant-loop-i
invariant-loop-i l = l.events.items ++ events_from l.i (drop l.i l.eqns) ≡ events_from 0 l.eqns
