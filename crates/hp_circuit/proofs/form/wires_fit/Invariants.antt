use Rattle.std.proofs.Common.{◌<◌, ℕ}
use Rattle.hp_circuit.specs.Forms.{shape_at, wire_at, IsShape, WireFits}
use Rattle.hp_circuit.proofs.form.wires_fit.Given as goal

abbrev pub invariant-loop-i : goal.invariant-loop-i
invariant-loop-i l = ((k : ℕ) → k < l.i → IsShape (shape_at l.shapes k)) × ((k : ℕ) → k < l.i → WireFits l.slots l.shapes (shape_at l.shapes k) (wire_at l.wires k))
