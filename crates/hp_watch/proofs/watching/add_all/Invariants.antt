use Rattle.std.proofs.Common.{◌≡◌, ◌++◌, drop}
use Rattle.std.specs.List.{flat_map}
use Rattle.hp_watch.specs.Watching.{free_at}
use Rattle.hp_watch.proofs.watching.add_all.Given as goal

abbrev pub invariant-loop-i : goal.invariant-loop-i
invariant-loop-i l = l.free.items ++ flat_map (free_at l.node) (drop l.i l.numbers) ≡ l.initial.free.items ++ flat_map (free_at l.node) l.numbers
