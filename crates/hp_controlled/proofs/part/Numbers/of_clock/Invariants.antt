use Rattle.std.proofs.Common.{◌≡◌, take}
use Rattle.hp_controlled.specs.Parts.{number_at, renumbered_clock}
use Rattle.hp_controlled.proofs.part.Numbers.of_clock.Given as goal

abbrev pub invariant-loop-i : goal.invariant-loop-i
invariant-loop-i l = l.steps.items ≡ renumbered_clock (number_at l.self.numbers.items) (take l.i l.clock)
