use Rattle.std.proofs.Common.{◌≡◌, ◌≤◌, take}
use Rattle.hp_circuit.specs.Kinds.{bits_of}
use Rattle.hp_circuit.proofs.places.bits_of.Given as goal

abbrev pub invariant-loop-i : goal.invariant-loop-i
invariant-loop-i l = (l.count ≡ bits_of l.steered l.kind (take l.i l.slots)) × (l.count ≤ l.most)
