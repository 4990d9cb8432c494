use Rattle.std.proofs.Common.{◌≡◌}
use Rattle.std.specs.List.{range_with_len}
use Rattle.hp_watch.specs.Adding.{next_variable}
use Rattle.hp_watch.specs.Lifting.{with_each, with_test}
use Rattle.hp_watch.proofs.lifting.add_tests.Given as goal

abbrev pub invariant-loop-constructor : goal.invariant-loop-constructor
invariant-loop-constructor l = record {
  tests : l.tests.items ≡ range_with_len (next_variable l.initial.node) l.constructor;
  node : l.node ≡ with_each (with_test l.number l.value) l.constructor l.initial.node;
}
