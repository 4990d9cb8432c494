use Rattle.std.proofs.Common.{◌≡◌, drop}
use Rattle.hp_init.specs.Spreading.{marks, all_marked}
use Rattle.hp_init.proofs.least.mark_all.Given as goal

abbrev pub invariant-loop-i : goal.invariant-loop-i
invariant-loop-i l = all_marked (drop l.i l.targets) (marks l.second l.waiting.items) ≡ all_marked l.targets (marks l.initial.second l.initial.waiting.items)
