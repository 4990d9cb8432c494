use Rattle.std.proofs.Common.{◌≡◌, ◌++◌}
use Rattle.std.proofs.Math.ListN.{replicate}
use Rattle.hp_obc.specs.Commands.{done}
use Rattle.hp_toobc.proofs.command.add_empty.Given as goal

abbrev pub invariant-loop-i : goal.invariant-loop-i
invariant-loop-i l = l.arms.items ≡ l.initial.arms.items ++ replicate l._i done
