use Rattle.std.proofs.Common.{◌≡◌, ◌++◌, replicate}
use Rattle.hp_circuit.proofs.registers.add_same.Given as goal

abbrev pub invariant-loop-i : goal.invariant-loop-i
invariant-loop-i l = l.into.items ≡ l.initial.into.items ++ replicate l._i l.value
