use Rattle.std.proofs.Common.{◌≡◌, take}
use Rattle.hp_circuit.specs.Machines.{joined}
use Rattle.hp_circuit.specs.Placing.{slot_gates}
use Rattle.hp_circuit.proofs.registers.next_of.Given as goal

abbrev pub invariant-loop-i : goal.invariant-loop-i
invariant-loop-i l = l.gates.items ≡ joined (slot_gates l.starts) (take l.i l.slots)
