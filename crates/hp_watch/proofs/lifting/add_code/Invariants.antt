use Rattle.std.proofs.Common.{◌≡◌, ◌≤◌, ◌++◌}
use Rattle.hp_watch.specs.Lifting.{with_bits}
use Rattle.hp_watch.proofs.lifting.add_code.Given as goal

abbrev pub invariant-loop-place : goal.invariant-loop-place
invariant-loop-place l = record {
  within : l.place ≤ 8;
  bits : l.bits.items ++ (with_bits l.tests l.place l.node).bits ≡ l.initial.bits.items ++ (with_bits l.tests l.width l.initial.node).bits;
  node : (with_bits l.tests l.place l.node).node ≡ (with_bits l.tests l.width l.initial.node).node;
}

abbrev pub decreases-loop-place : goal.decreases-loop-place
decreases-loop-place l = l.place
