use Rattle.std.proofs.Common.{◌≡◌, take}
use Rattle.hp_circuit.specs.Machines.{joined}
use Rattle.hp_circuit.specs.Giving.{slot_given}
use Rattle.hp_circuit.proofs.given.given_of.Given as goal

abbrev pub invariant-loop-i : goal.invariant-loop-i
invariant-loop-i l = l.given.items ≡ joined (slot_given l.steered) (take l.i l.slots)
