use Rattle.std.proofs.Common.{ℕ, List, Contains, All}
use Rattle.hp_circuit.specs.declared.circuit.Slot.{Slot}
use Rattle.hp_circuit.specs.Reading.{IsMarked, IsSteered}
use Rattle.hp_circuit.proofs.SteeredLaws.{AreClosed}
use Rattle.hp_circuit.proofs.steered.mark_readers.Given as goal

abbrev pub invariant-loop-i : goal.invariant-loop-i
invariant-loop-i l =
    (((w : ℕ) → IsMarked l.initial.steered w → IsMarked l.steered w)
    × ((slots : List Slot) (all : List (ℕ × ℕ)) → All (λ e. Contains all (e.1, e.2)) l.edges
    → ((w : ℕ) → IsMarked l.initial.steered w → IsSteered slots all w) → (w : ℕ) → IsMarked l.steered w → IsSteered slots all w))
    × AreClosed l.edges l.i l.steered
