use Rattle.std.proofs.Common.{◌≡◌, ◌≤◌, length, drop}
use Rattle.hp_tables.specs.Declarations.Tables.{said_in}
use Rattle.hp_drawing.specs.Told.{counts_of}
use Rattle.hp_abstract.proofs.table.counts_of.Given as goal

abbrev pub invariant-loop-i : goal.invariant-loop-i
invariant-loop-i l =
    record {
      within : l.i ≤ length l.items;
      counts : said_in l.counts ≡ counts_of (drop l.i l.items);
    }

abbrev pub decreases-loop-i : goal.decreases-loop-i
decreases-loop-i l = l.i
