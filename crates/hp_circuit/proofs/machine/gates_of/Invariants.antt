use Rattle.std.proofs.Common.{◌≡◌, take, map}
use Rattle.hp_circuit.specs.Giving.{gate_of}
use Rattle.hp_circuit.proofs.machine.gates_of.Given as goal

abbrev pub invariant-loop-i : goal.invariant-loop-i
invariant-loop-i l = l.gates.items ≡ map (gate_of l.shapes l.starts) (take l.i l.wires)
