use Rattle.std.proofs.Common.{◌≡◌, take}
use Rattle.hp_tree.proofs.block.same_transitions.Given as goal

abbrev pub invariant-loop-i : goal.invariant-loop-i
invariant-loop-i l = take l.i l.transitions ≡ take l.i l.others
