use Rattle.std.proofs.Common.{ℕ, ◌≤◌, drop}
use Rattle.hp_graph.specs.Graphs.{AreWithin}
use Rattle.hp_graph.proofs.edges.count_of.Given as goal

abbrev pub invariant-loop-i : goal.invariant-loop-i
invariant-loop-i l = (bound : ℕ) → l.count ≤ bound → AreWithin bound (drop l.i l.edges) → AreWithin bound l.edges
