use Rattle.std.proofs.Common.{◌≡◌, take}
use Rattle.hp_play.proofs.replaying.begins.Given as goal

abbrev pub invariant-loop-i : goal.invariant-loop-i
invariant-loop-i l = take l.i l.values ≡ take l.i l.with
