use Rattle.std.proofs.Common.{◌≡◌, ◌≤◌, length, drop}
use Rattle.hp_normal.specs.Tables.{definers}
use Rattle.hp_normal.proofs.retarget.set_definers.Given as goal

abbrev pub invariant-loop-i : goal.invariant-loop-i
invariant-loop-i l = record { within : l.i ≤ length l.eqns; places : l.places ≡ definers l.i (drop l.i l.eqns) l.initial.places }

abbrev pub decreases-loop-i : goal.decreases-loop-i
decreases-loop-i l = l.i
