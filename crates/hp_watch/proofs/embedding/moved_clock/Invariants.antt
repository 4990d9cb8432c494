use Rattle.std.proofs.Common.{◌≡◌, ◌++◌, drop}
use Rattle.hp_watch.specs.Embedding.{moved_clock}
use Rattle.hp_watch.proofs.embedding.moved_clock.Given as goal

abbrev pub invariant-loop-i : goal.invariant-loop-i
invariant-loop-i l = l.steps.items ++ moved_clock l.by (drop l.i l.clock) ≡ l.before ++ moved_clock l.by l.clock
