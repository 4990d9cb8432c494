use Rattle.std.proofs.Common.{◌≡◌, ◌++◌, drop, length}
use Rattle.hp_driver.specs.Sweeping.{inputs_at}
use Rattle.hp_driver.proofs.sweep.fill.Given as goal

-- the first inputs are filled in
abbrev pub invariant-loop-i : goal.invariant-loop-i
invariant-loop-i l = (length l.inputs ≡ length l.fn.inputs) × (l.inputs ≡ inputs_at l.instant l.i ++ drop l.i l.fn.inputs)
