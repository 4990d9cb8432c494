use Rattle.std.proofs.Common.{◌≡◌, ◌++◌, drop}
use Rattle.hp_watch.specs.Observing.{observers}
use Rattle.hp_watch.proofs.observer.add_items.Given as goal

abbrev pub invariant-loop-i : goal.invariant-loop-i
invariant-loop-i l = l.items.items ++ observers (drop l.i l.all) ≡ l.initial.items.items ++ observers l.all
