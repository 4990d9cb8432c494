use Rattle.std.proofs.Common.{◌≡◌, ◌≤◌, ◌<◌, false, ℕ, IsTrue, length}
use Rattle.hp_quant.specs.Turns.{marked}
use Rattle.hp_quant.proofs.quantifier.range.Given as goal

abbrev pub invariant-loop-x : goal.invariant-loop-x
invariant-loop-x l =
    (length l.of.items ≡ l.to)
    × ((y : ℕ) → y < l.x → marked l.of.items y ≡ false)
    × ((y : ℕ) → l.x ≤ y → y < l.to → IsTrue (marked l.of.items y))
    × ((y : ℕ) → l.to ≤ y → marked l.of.items y ≡ false)
