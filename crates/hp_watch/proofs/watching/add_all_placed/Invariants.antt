use Rattle.std.proofs.Common.{◌≡◌, ◌++◌, drop}
use Rattle.std.specs.List.{flat_map}
use Rattle.hp_watch.specs.Watching.{free_placed, observers_seen, placed_as}
use Rattle.hp_watch.proofs.watching.add_all_placed.Given as goal

abbrev pub invariant-loop-i : goal.invariant-loop-i
invariant-loop-i l =
    l.free.items ++ flat_map (free_placed (observers_seen l.observers) (placed_as l.node l.shifts)) (drop l.i l.order) ≡ l.initial.free.items ++ flat_map (free_placed (observers_seen l.observers) (placed_as l.node l.shifts)) l.order
