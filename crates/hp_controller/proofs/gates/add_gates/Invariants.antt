use Rattle.std.proofs.Common.{◌≡◌, ◌++◌, drop}
use Rattle.hp_controller.specs.Gates.{gate_eqns}
use Rattle.hp_controller.proofs.gates.add_gates.Given as goal

abbrev pub invariant-loop-i : goal.invariant-loop-i
invariant-loop-i l = l.eqns.items ++ gate_eqns l.places l.first l.i (drop l.i l.gates) ≡ l.initial.eqns.items ++ gate_eqns l.places l.first 0 l.gates
