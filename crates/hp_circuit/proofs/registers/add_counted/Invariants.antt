use Rattle.std.proofs.Common.{◌≡◌, ◌++◌}
use Rattle.hp_circuit.specs.Placing.{counted}
use Rattle.hp_circuit.proofs.registers.add_counted.Given as goal

abbrev pub invariant-loop-i : goal.invariant-loop-i
invariant-loop-i l = l.into.items ≡ l.initial.into.items ++ counted l.start l.i
