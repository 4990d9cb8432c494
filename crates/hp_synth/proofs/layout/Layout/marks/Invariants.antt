use Rattle.std.proofs.Common.{◌≡◌, ◌⊎◌, ◌<◌, ◌≤◌, ℕ, false, IsTrue, length}
use Rattle.hp_quant.specs.Turns.{marked}
use Rattle.hp_synth.specs.Layouts.{place}
use Rattle.hp_synth.proofs.layout.Layout.marks.Given as goal

abbrev pub invariant-loop-x : goal.invariant-loop-x
invariant-loop-x l =
    (length l.of.items ≡ l.vars)
    × ((z : ℕ) → l.from ≤ z → z < l.x → IsTrue (marked l.of.items (place l.self z)))
    × ((z : ℕ) → (z < l.from) ⊎ (l.x ≤ z) → marked l.of.items (place l.self z) ≡ false)
