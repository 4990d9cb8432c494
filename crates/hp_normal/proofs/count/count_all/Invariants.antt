use Rattle.std.proofs.Common.{◌≡◌, drop}
use Rattle.hp_normal.specs.Tables.{counted}
use Rattle.hp_normal.proofs.count.count_all.Given as goal

abbrev pub invariant-loop-variable : goal.invariant-loop-variable
invariant-loop-variable l = counted (drop l.variable-index l.variables) l.counts ≡ counted l.variables l.initial.counts
