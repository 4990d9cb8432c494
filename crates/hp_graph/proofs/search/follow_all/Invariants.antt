use Rattle.std.proofs.Common.{◌≡◌, [], length}
use Rattle.hp_graph.specs.Searching.{Searches, AreDone}
use Rattle.hp_graph.proofs.search.follow_all.Given as goal

abbrev pub invariant-loop-vertex : goal.invariant-loop-vertex
invariant-loop-vertex l =
    record {
      searches : Searches l.edges l.left l.marks l.path.items l.done;
      many : length l.marks ≡ length l.initial.marks;
      empty : l.path.items ≡ [];
      done : AreDone l.marks l.vertex;
    }
