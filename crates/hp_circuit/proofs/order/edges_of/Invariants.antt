use Rattle.std.proofs.Common.{◌≡◌, ◌++◌, drop}
use Rattle.hp_circuit.specs.Reading.{wire_edges}
use Rattle.hp_circuit.proofs.order.edges_of.Given as goal

abbrev pub invariant-loop-i : goal.invariant-loop-i
invariant-loop-i l = l.edges.items ++ wire_edges l.i (drop l.i l.circuit.wires.items) ≡ wire_edges 0 l.circuit.wires.items
