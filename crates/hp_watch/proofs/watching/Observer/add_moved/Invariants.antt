use Rattle.std.proofs.Common.{◌≡◌, ◌++◌, drop, map}
use Rattle.hp_watch.specs.Watching.{moved_free}
use Rattle.hp_watch.proofs.watching.Observer.add_moved.Given as goal

abbrev pub invariant-loop-i : goal.invariant-loop-i
invariant-loop-i l = l.free.items ++ map (moved_free l.shift) (drop l.i l.self.free.items) ≡ l.initial.free.items ++ map (moved_free l.shift) l.self.free.items
