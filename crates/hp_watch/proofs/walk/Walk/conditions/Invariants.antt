use Rattle.std.proofs.Common.{◌≡◌, ◌+◌, ◌++◌, drop}
use Rattle.hp_watch.specs.Walk.{in_conditions, walk_conditions}
use Rattle.hp_watch.proofs.walk.Walk.conditions.Given as goal

abbrev pub invariant-loop-transition : goal.invariant-loop-transition
invariant-loop-transition l = record {
  found : l.into.items ++ (walk_conditions (drop l.transition-index l.transitions) l.self.left.now).0 ≡ l.initial.into.items ++ (walk_conditions l.transitions l.initial.self.left.now).0;
  left : (walk_conditions (drop l.transition-index l.transitions) l.self.left.now).1 ≡ (walk_conditions l.transitions l.initial.self.left.now).1;
  asked : l.self.asked + in_conditions (drop l.transition-index l.transitions) ≡ l.initial.self.asked + in_conditions l.transitions;
}
