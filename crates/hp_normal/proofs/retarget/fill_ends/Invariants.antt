use Rattle.std.proofs.Common.{◌≡◌, ◌≤◌, length, drop}
use Rattle.hp_normal.specs.Retargeting.{ends}
use Rattle.hp_normal.specs.Tables.{ends_at}
use Rattle.hp_normal.proofs.retarget.fill_ends.Given as goal

abbrev pub invariant-loop-i : goal.invariant-loop-i
invariant-loop-i l =
    record {
      within : l.i ≤ length l.node.eqns;
      len : length l.table ≡ length l.node.variables;
      ends : ends_at l.table ≡ ends l.node (drop l.i l.node.eqns);
    }

abbrev pub decreases-loop-i : goal.decreases-loop-i
decreases-loop-i l = l.i
