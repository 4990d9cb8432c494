use Rattle.std.proofs.Common.{◌≡◌, ◌<◌, ℕ, length}
use Rattle.hp_synth.specs.Layouts.{at}
use Rattle.hp_synth.proofs.layout.undoes.Given as goal

abbrev pub invariant-loop-x : goal.invariant-loop-x
invariant-loop-x l = (y : ℕ) → y < l.x → (at l.places y < length l.variables) × (at l.variables (at l.places y) ≡ y)
