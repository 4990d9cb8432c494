use Rattle.std.proofs.Common.{◌≡◌, drop}
use Rattle.hp_schedule.specs.Reaching.{raised_all}
use Rattle.hp_schedule.proofs.reach.raise_all.Given as goal

abbrev pub invariant-loop-variable : goal.invariant-loop-variable
invariant-loop-variable l = raised_all l.table (drop l.variable-index l.variables) l.weight ≡ raised_all l.table l.variables l.initial.weight
