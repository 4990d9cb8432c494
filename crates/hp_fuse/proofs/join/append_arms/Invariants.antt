use Rattle.std.proofs.Common.{◌≡◌}
use Rattle.hp_fuse.specs.Joining.{paired_to, left_to}
use Rattle.hp_fuse.proofs.join.append_arms.Given as goal

abbrev pub invariant-loop-i : goal.invariant-loop-i
invariant-loop-i l = record {
  paired : l.arms ≡ paired_to l.i l.initial.arms l.initial.others;
  emptied : l.others ≡ left_to l.i l.initial.others;
}
