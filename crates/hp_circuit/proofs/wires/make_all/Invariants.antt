use Rattle.std.proofs.Common.{◌≡◌, ◌<◌, ℕ, drop, get_or, length, replicate}
use Rattle.std.specs.Prelude.{None}
use Rattle.hp_circuit.specs.Making.{IsMade, Stands}
use Rattle.hp_circuit.specs.Wiring.{with_all}
use Rattle.hp_circuit.proofs.wires.make_all.Given as goal

abbrev pub invariant-loop-i : goal.invariant-loop-i
invariant-loop-i l =
    Stands l.circuit.slots.items l.circuit.wires.items l.circuit.shapes.items l.places l.gates.items l.starts.items
    × ((k : ℕ) → k < l.i → IsMade l.starts.items (get_or l.order k (0, 0)).1)
    × (with_all l.circuit.wires.items l.circuit.shapes.items l.places (record { gates = l.gates.items; starts = l.starts.items }) (drop l.i l.order)
    ≡ with_all l.circuit.wires.items l.circuit.shapes.items l.places (record { gates = l.initial.gates.items; starts = replicate (length l.circuit.wires.items) None }) l.order)
