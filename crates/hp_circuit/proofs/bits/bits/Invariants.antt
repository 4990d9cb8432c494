use Rattle.std.proofs.Common.{◌≡◌, ◌-◌, ◌++◌}
use Rattle.hp_circuit.specs.Numbers.{to_bits}
use Rattle.hp_circuit.proofs.bits.bits.Given as goal

abbrev pub invariant-loop-i : goal.invariant-loop-i
invariant-loop-i l = l.bits.items ++ to_bits (l.width - l.i) l.left ≡ to_bits l.width l.number
