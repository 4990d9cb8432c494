use Rattle.std.proofs.Common.{◌≡◌, ◌≤◌, length, drop}
use Rattle.hp_tables.specs.Declarations.Items.{with_constructors}
use Rattle.hp_tables.specs.Declarations.Tables.{said_in}
use Rattle.hp_tables.proofs.declarations.constructors.put_all.Given as goal

abbrev pub invariant-loop-i : goal.invariant-loop-i
invariant-loop-i l =
    record {
      within : l.i ≤ length l.cons;
      found : said_in l.found ≡ with_constructors l.number l.i (drop l.i l.cons) (said_in l.initial.found);
    }

abbrev pub decreases-loop-i : goal.decreases-loop-i
decreases-loop-i l = l.i
