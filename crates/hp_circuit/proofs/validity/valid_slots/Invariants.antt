use Rattle.std.proofs.Common.{◌≡◌, drop, take}
use Rattle.hp_circuit.specs.Numbers.{number}
use Rattle.hp_circuit.specs.Shapes.{shape_width}
use Rattle.hp_circuit.specs.Forms.{shape_at}
use Rattle.hp_circuit.specs.Adding.{word, Adds}
use Rattle.hp_circuit.specs.Making.{place_at}
use Rattle.hp_circuit.specs.Machines.{all_valid}
use Rattle.hp_circuit.specs.Wiring.{with_valid}
use Rattle.hp_circuit.proofs.validity.valid_slots.Given as goal

abbrev pub invariant-loop-i : goal.invariant-loop-i
invariant-loop-i l =
    Adds 0 l.initial.gates.items l.gates.items l.valid (λ v. all_valid (λ w. number (word l.initial.gates.items v (place_at l.starts w) (shape_width (shape_at l.shapes w)))) (take l.i l.slots))
    × (with_valid l.starts (l.gates.items, l.valid) (drop l.i l.slots) ≡ with_valid l.starts (l.initial.gates.items, 1) l.slots)
