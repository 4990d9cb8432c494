use Rattle.std.proofs.Common.{◌≡◌, drop, map}
use Rattle.hp_typing.specs.Uses.{worst, among, how}
use Rattle.hp_typing.proofs.uses.join.Given as goal

abbrev pub invariant-loop-i : goal.invariant-loop-i
invariant-loop-i l = worst (how l.all) (among (map how (drop l.i l.blocks))) ≡ among (map how l.blocks)
