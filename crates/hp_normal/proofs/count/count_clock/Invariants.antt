use Rattle.std.proofs.Common.{◌≡◌, drop}
use Rattle.hp_normal.specs.Reading.{clock_variables}
use Rattle.hp_normal.specs.Tables.{counted}
use Rattle.hp_normal.proofs.count.count_clock.Given as goal

abbrev pub invariant-loop-variable : goal.invariant-loop-variable
invariant-loop-variable l = counted (clock_variables (drop l.variable-index l.clock)) l.counts ≡ counted (clock_variables l.clock) l.initial.counts
