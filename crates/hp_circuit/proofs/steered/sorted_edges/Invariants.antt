use Rattle.hp_circuit.proofs.SteeredLaws.{AreEdges}
use Rattle.hp_circuit.proofs.steered.sorted_edges.Given as goal

abbrev pub invariant-loop-i : goal.invariant-loop-i
invariant-loop-i l = AreEdges l.edges l.ranks l.i l.sorted.items
