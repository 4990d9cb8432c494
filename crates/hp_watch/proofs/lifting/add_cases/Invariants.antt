use Rattle.std.proofs.Common.{◌≡◌}
use Rattle.hp_watch.specs.Lifting.{with_cases}
use Rattle.hp_watch.proofs.lifting.add_cases.Given as goal

abbrev pub invariant-loop-constructor : goal.invariant-loop-constructor
invariant-loop-constructor l = l.node ≡ with_cases l.target l.ty l.step.clock.now (l.step.tested, l.step.taken) l.step.value l.constructor l.initial.node
