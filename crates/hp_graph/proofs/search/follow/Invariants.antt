use Rattle.std.proofs.Common.{◌≡◌, length}
use Rattle.hp_graph.specs.Searching.{Searches, Keeps, size}
use Rattle.hp_graph.proofs.search.follow.Given as goal

abbrev pub invariant-loop-vertex : goal.invariant-loop-vertex
invariant-loop-vertex l =
    record {
      searches : Searches l.edges l.left l.marks l.path.items l.done;
      many : length l.marks ≡ length l.initial.marks;
      keeps : Keeps l.initial.marks l.marks;
    }

abbrev pub decreases-loop-vertex : goal.decreases-loop-vertex
decreases-loop-vertex l = size l.left l.marks
