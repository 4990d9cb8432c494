use Rattle.std.proofs.Common.{◌≡◌, map, take}
use Rattle.hp_graph.specs.Searching.{rank_of}
use Rattle.hp_graph.proofs.search.ranks_of.Given as goal

abbrev pub invariant-loop-i : goal.invariant-loop-i
invariant-loop-i l = l.ranks.items ≡ map rank_of (take l.i l.marks)
