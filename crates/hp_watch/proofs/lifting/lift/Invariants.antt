use Rattle.std.proofs.Common.{◌≡◌, ◌≤◌, length, take, drop}
use Rattle.hp_watch.specs.Lifting.{lifted}
use Rattle.hp_watch.proofs.lifting.lift.Given as goal

abbrev pub invariant-loop-left : goal.invariant-loop-left
invariant-loop-left l = record {
  within : l.left ≤ length l.clock;
  value : l.value ≡ (lifted l.types (take l.left l.clock) (drop l.left l.clock) l.variable l.initial.node).value;
  node : l.node ≡ (lifted l.types (take l.left l.clock) (drop l.left l.clock) l.variable l.initial.node).node;
}

abbrev pub decreases-loop-left : goal.decreases-loop-left
decreases-loop-left l = l.left
