use Rattle.std.proofs.Common.{◌≡◌, ◌++◌}
use Rattle.hp_watch.specs.Watching.{free_inputs}
use Rattle.hp_watch.proofs.watching.add_inputs.Given as goal

abbrev pub invariant-loop-variable : goal.invariant-loop-variable
invariant-loop-variable l = l.free.items ≡ l.initial.free.items ++ free_inputs l.node l.variable
