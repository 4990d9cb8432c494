use Rattle.std.proofs.Common.{◌≡◌, ◌≤◌, length, drop, map}
use Rattle.hp_tables.specs.Declarations.Tables.{numbered, said_in}
use Rattle.hp_tables.proofs.declarations.table.numbers_of.Given as goal

abbrev pub invariant-loop-i : goal.invariant-loop-i
invariant-loop-i l =
    record {
      within : l.i ≤ length l.names;
      numbers : said_in l.numbers ≡ numbered l.i (map (λ x. x.now) (drop l.i l.names));
    }

abbrev pub decreases-loop-i : goal.decreases-loop-i
decreases-loop-i l = l.i
