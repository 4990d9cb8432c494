use Rattle.std.proofs.Common.{◌≡◌, ◌++◌, drop}
use Rattle.hp_schedule.specs.Turning.{turns_from}
use Rattle.hp_schedule.proofs.order.turns_of.Given as goal

abbrev pub invariant-loop-i : goal.invariant-loop-i
invariant-loop-i l = l.turns.items ++ turns_from l.i (drop l.i l.eqns) ≡ turns_from 0 l.eqns
