use Rattle.std.proofs.Common.{◌≡◌, ◌++◌, take, drop, length}
use Rattle.hp_driver.specs.Sweeping.{counted}
use Rattle.hp_driver.proofs.sweep.count.Given as goal

-- the first counts are made
abbrev pub invariant-loop-i : goal.invariant-loop-i
invariant-loop-i l = (length l.counts ≡ length l.fn.counts) × (take l.i l.counts ++ counted (drop l.i l.counts) (drop l.i l.outputs) ≡ counted l.fn.counts l.outputs)
