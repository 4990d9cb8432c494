use Rattle.std.proofs.Common.{◌≡◌, ◌≤◌, false, ℕ, length}
use Rattle.hp_quant.specs.Turns.{marked}
use Rattle.hp_quant.proofs.quantifier.end_of.Given as goal

abbrev pub invariant-loop-end : goal.invariant-loop-end
invariant-loop-end l = (l.end ≤ length l.of) × ((x : ℕ) → l.end ≤ x → marked l.of x ≡ false)

abbrev pub decreases-loop-end : goal.decreases-loop-end
decreases-loop-end l = l.end
