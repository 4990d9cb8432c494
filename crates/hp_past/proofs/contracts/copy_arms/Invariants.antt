use Rattle.std.proofs.Common.{◌≡◌, take}
use Rattle.hp_past.proofs.contracts.copy_arms.Given as goal

abbrev pub invariant-loop-arm : goal.invariant-loop-arm
invariant-loop-arm l = l.copies.items ≡ take l.arm-index l.arms
