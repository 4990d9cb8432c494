use Rattle.std.proofs.Common.{◌≡◌}
use Rattle.std.specs.List.{range_with_len}
use Rattle.hp_watch.specs.Watching.{reads}
use Rattle.hp_watch.proofs.watching.first_reads.Given as goal

abbrev pub invariant-loop-variable : goal.invariant-loop-variable
invariant-loop-variable l = l.atoms.items ≡ reads (range_with_len 0 l.variable)
