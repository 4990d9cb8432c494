use Rattle.std.proofs.Common.{◌≡◌, ◌≤◌, length, drop}
use Rattle.hp_tables.specs.Declarations.Items.{constructors_of}
use Rattle.hp_tables.specs.Declarations.Tables.{said_in}
use Rattle.hp_tables.proofs.declarations.constructors.constructors_of.Given as goal

abbrev pub invariant-loop-i : goal.invariant-loop-i
invariant-loop-i l =
    record {
      within : l.i ≤ length l.items;
      found : said_in l.found ≡ constructors_of (said_in l.types) l.other (drop l.i l.items);
    }

abbrev pub decreases-loop-i : goal.decreases-loop-i
decreases-loop-i l = l.i
