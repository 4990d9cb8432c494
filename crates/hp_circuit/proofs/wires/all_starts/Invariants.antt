use Rattle.std.proofs.Common.{◌≡◌, ◌<◌, ℕ, length, slice_index_or}
use Rattle.std.specs.Prelude.{Some}
use Rattle.hp_circuit.specs.Making.{start_at}
use Rattle.hp_circuit.proofs.wires.all_starts.Given as goal

abbrev pub invariant-loop-i : goal.invariant-loop-i
invariant-loop-i l = (length l.all.items ≡ length l.starts) × ((w : ℕ) → w < l.i → start_at l.starts w ≡ Some (slice_index_or l.all.items w 0))
