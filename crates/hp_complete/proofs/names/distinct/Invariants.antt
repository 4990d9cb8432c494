use Rattle.std.proofs.Common.{◌≡◌, [], drop}
use Rattle.hp_complete.specs.Names.{names_seen, with_each_once}
use Rattle.hp_complete.proofs.names.distinct.Given as goal

abbrev pub invariant-loop-i : goal.invariant-loop-i
invariant-loop-i l =
    record {
      same : names_seen l.seen.keys ≡ names_seen l.found.items;
      made : with_each_once (names_seen l.found.items) (names_seen (drop l.i l.names)) ≡ with_each_once [] (names_seen l.names);
    }
