use Rattle.std.proofs.Common.{◌<◌, ℕ}
use Rattle.hp_circuit.specs.Forms.{slot_at, SlotFits}
use Rattle.hp_circuit.proofs.form.slots_fit.Given as goal

abbrev pub invariant-loop-i : goal.invariant-loop-i
invariant-loop-i l = (k : ℕ) → k < l.i → SlotFits l.wires l.shapes k (slot_at l.slots k)
