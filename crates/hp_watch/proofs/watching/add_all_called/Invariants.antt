use Rattle.std.proofs.Common.{◌≡◌}
use Rattle.hp_watch.specs.Watching.{observers_seen, placed, placed_as}
use Rattle.hp_watch.proofs.watching.add_all_called.Given as goal

abbrev pub invariant-loop-number : goal.invariant-loop-number
invariant-loop-number l = placed_as l.node l.shifts.items ≡ placed (observers_seen l.observers) l.number l.initial.node
