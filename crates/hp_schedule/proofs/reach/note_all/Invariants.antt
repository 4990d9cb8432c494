use Rattle.std.proofs.Common.{◌≡◌, drop}
use Rattle.hp_schedule.specs.Reaching.{noted_all}
use Rattle.hp_schedule.proofs.reach.note_all.Given as goal

abbrev pub invariant-loop-variable : goal.invariant-loop-variable
invariant-loop-variable l = noted_all l.weight (drop l.variable-index l.variables) l.table ≡ noted_all l.weight l.variables l.initial.table
