use Rattle.std.proofs.Common.{◌≡◌, drop}
use Rattle.law_equations.specs.Meaning.Scheduling.{clock_variables}
use Rattle.hp_schedule.specs.Reaching.{noted_all}
use Rattle.hp_schedule.proofs.reach.note_clock.Given as goal

abbrev pub invariant-loop-variable : goal.invariant-loop-variable
invariant-loop-variable l = noted_all l.weight (clock_variables (drop l.variable-index l.clock)) l.table ≡ noted_all l.weight (clock_variables l.clock) l.initial.table
