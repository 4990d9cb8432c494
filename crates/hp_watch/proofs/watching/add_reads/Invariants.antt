use Rattle.std.proofs.Common.{◌≡◌, ◌++◌, drop}
use Rattle.hp_watch.specs.Watching.{reads}
use Rattle.hp_watch.proofs.watching.add_reads.Given as goal

abbrev pub invariant-loop-i : goal.invariant-loop-i
invariant-loop-i l = l.into.items ++ reads (drop l.i l.variables) ≡ l.initial.into.items ++ reads l.variables
