use Rattle.std.proofs.Common.{◌≡◌, drop}
use Rattle.hp_normal.specs.Retargeting.{same_clock}
use Rattle.hp_normal.proofs.retarget.same_clock.Given as goal

abbrev pub invariant-loop-i : goal.invariant-loop-i
invariant-loop-i l = same_clock (drop l.i l.first) (drop l.i l.second) ≡ same_clock l.first l.second
