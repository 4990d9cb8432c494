use Rattle.std.proofs.Common.{◌≡◌, drop}
use Rattle.hp_watch.specs.Lifting.{either}
use Rattle.hp_watch.proofs.lifting.add_bit.Given as goal

abbrev pub invariant-loop-i : goal.invariant-loop-i
invariant-loop-i l = either l.place l.i (drop l.i l.tests) l.bit l.node ≡ either l.place 0 l.tests l.initial.bit l.initial.node
