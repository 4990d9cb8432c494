use Rattle.std.proofs.Common.{◌≡◌, ◌++◌, drop}
use Rattle.hp_watch.specs.Embedding.{moved_all}
use Rattle.hp_watch.proofs.embedding.add_moved.Given as goal

abbrev pub invariant-loop-number : goal.invariant-loop-number
invariant-loop-number l = l.into.items ++ moved_all l.by (drop l.number-index l.numbers) ≡ l.initial.into.items ++ moved_all l.by l.numbers
