use Rattle.std.proofs.Common.{◌≡◌, take}
use Rattle.hp_circuit.specs.Machines.{joined, slot_widths}
use Rattle.hp_circuit.proofs.registers.widths_of.Given as goal

abbrev pub invariant-loop-i : goal.invariant-loop-i
invariant-loop-i l = l.widths.items ≡ joined slot_widths (take l.i l.slots)
