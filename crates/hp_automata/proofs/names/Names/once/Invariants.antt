use Rattle.std.proofs.Common.{◌≡◌, drop}
use Rattle.hp_automata.specs.Names.{once, once_behind}
use Rattle.hp_automata.specs.Lists.{names_seen, paired}
use Rattle.hp_automata.proofs.names.Names.once.Given as goal

abbrev pub invariant-loop-i : goal.invariant-loop-i
invariant-loop-i l =
    record {
      tied : l.known ≡ paired (names_seen l.found.items);
      names : once_behind (names_seen l.found.items) (names_seen (drop l.i l.names)) ≡ once (names_seen l.names);
    }
