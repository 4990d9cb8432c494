use Rattle.std.proofs.Common.{◌≡◌, ℕ, List, length}
use Rattle.hp_circuit.specs.Levels.{AreLifted}
use Rattle.hp_circuit.specs.Ordering.{AreFalling}
use Rattle.hp_circuit.proofs.levels.lift_all.Given as goal

abbrev pub invariant-loop-i : goal.invariant-loop-i
invariant-loop-i l = (length l.levels ≡ length l.initial.levels) × ((ranks : List ℕ) → AreFalling ranks l.edges → AreLifted l.edges l.i l.levels)
