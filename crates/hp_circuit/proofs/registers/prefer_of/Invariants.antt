use Rattle.std.proofs.Common.{◌≡◌, take}
use Rattle.hp_circuit.specs.Machines.{joined, slot_prefer}
use Rattle.hp_circuit.proofs.registers.prefer_of.Given as goal

abbrev pub invariant-loop-i : goal.invariant-loop-i
invariant-loop-i l = l.prefer.items ≡ joined slot_prefer (take l.i l.slots)
