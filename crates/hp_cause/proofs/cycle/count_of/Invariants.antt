use Rattle.std.proofs.Common.{ℕ, ◌≤◌, drop}
use Rattle.hp_cause.specs.Describing.{AllBelow}
use Rattle.hp_cause.proofs.cycle.count_of.Given as goal

abbrev pub invariant-loop-i : goal.invariant-loop-i
invariant-loop-i l = (bound : ℕ) → l.count ≤ bound → AllBelow bound (drop l.i l.cycle) → AllBelow bound l.cycle
