use Rattle.std.proofs.Common.{◌≡◌, ◌++◌, drop}
use Rattle.std.specs.List.{flat_map}
use Rattle.hp_watch.specs.Watching.{free_target}
use Rattle.hp_watch.proofs.watching.add_targets.Given as goal

abbrev pub invariant-loop-i : goal.invariant-loop-i
invariant-loop-i l = l.free.items ++ flat_map (free_target l.node l.eqn) (drop l.i l.variables) ≡ l.initial.free.items ++ flat_map (free_target l.node l.eqn) l.variables
