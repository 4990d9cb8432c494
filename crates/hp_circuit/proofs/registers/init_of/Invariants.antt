use Rattle.std.proofs.Common.{◌≡◌, take}
use Rattle.hp_circuit.specs.Machines.{joined, slot_init}
use Rattle.hp_circuit.proofs.registers.init_of.Given as goal

abbrev pub invariant-loop-i : goal.invariant-loop-i
invariant-loop-i l = l.init.items ≡ joined slot_init (take l.i l.slots)
