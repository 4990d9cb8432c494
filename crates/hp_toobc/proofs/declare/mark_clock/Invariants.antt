use Rattle.std.proofs.Common.{◌≡◌, true, drop}
use Rattle.hp_toobc.specs.Making.{clock_variables}
use Rattle.hp_toobc.specs.Flags.{marked}
use Rattle.hp_toobc.proofs.declare.mark_clock.Given as goal

abbrev pub invariant-loop-i : goal.invariant-loop-i
invariant-loop-i l = marked true (clock_variables (drop l.i l.clock)) l.flags ≡ marked true (clock_variables l.clock) l.initial.flags
