use Rattle.std.proofs.Common.{◌≡◌, length}
use Rattle.hp_graph.specs.Searching.{AreLast, AreLinked}
use Rattle.hp_graph.proofs.link.link.Given as goal

abbrev pub invariant-loop-i : goal.invariant-loop-i
invariant-loop-i l =
    record {
      many : length l.last ≡ length l.initial.last;
      each : length l.links.items ≡ l.i;
      last : AreLast l.edges l.i l.last;
      links : AreLinked l.edges l.i l.links.items;
    }
