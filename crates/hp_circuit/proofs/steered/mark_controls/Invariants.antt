use Rattle.std.proofs.Common.{ℕ}
use Rattle.hp_circuit.specs.Reading.{IsControlBefore, IsMarked}
use Rattle.hp_circuit.proofs.steered.mark_controls.Given as goal

abbrev pub invariant-loop-i : goal.invariant-loop-i
invariant-loop-i l =
    ((w : ℕ) → IsMarked l.steered w → IsControlBefore l.slots l.i w) × ((w : ℕ) → IsControlBefore l.slots l.i w → IsMarked l.steered w)
