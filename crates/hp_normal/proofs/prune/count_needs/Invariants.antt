use Rattle.std.proofs.Common.{◌≡◌, ◌≤◌, length, drop}
use Rattle.hp_normal.specs.Tables.{with_needs}
use Rattle.hp_normal.proofs.prune.count_needs.Given as goal

abbrev pub invariant-loop-i : goal.invariant-loop-i
invariant-loop-i l = record { within : l.i ≤ length l.eqns; counts : l.counts ≡ with_needs (drop l.i l.eqns) l.initial.counts }

abbrev pub decreases-loop-i : goal.decreases-loop-i
decreases-loop-i l = l.i
