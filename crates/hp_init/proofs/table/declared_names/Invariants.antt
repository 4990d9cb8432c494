use Rattle.std.proofs.Common.{◌≡◌, ◌≤◌, length, drop}
use Rattle.hp_init.specs.Tables.{holds, declared_in}
use Rattle.hp_init.proofs.table.declared_names.Given as goal

abbrev pub invariant-loop-i : goal.invariant-loop-i
invariant-loop-i l =
    record {
      within : l.i ≤ length l.decls;
      declared : holds l.names ≡ declared_in (drop l.i l.decls);
    }

abbrev pub decreases-loop-i : goal.decreases-loop-i
decreases-loop-i l = l.i
