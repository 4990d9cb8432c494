use Rattle.std.proofs.Common.{◌<◌, ℕ}
use Rattle.hp_circuit.specs.Numbers.{pow2}
use Rattle.hp_circuit.proofs.bits.width.Given as goal

abbrev pub invariant-loop-width : goal.invariant-loop-width
invariant-loop-width l = (k : ℕ) → k < l.width → pow2 k < l.count
