use Rattle.std.proofs.Common.{◌≡◌, ◌+◌, ◌++◌, drop}
use Rattle.hp_controller.specs.Steps.{register_eqns}
use Rattle.hp_controller.proofs.steps.add_registers.Given as goal

abbrev pub invariant-loop-i : goal.invariant-loop-i
invariant-loop-i l = l.eqns.items ++ register_eqns (l.first + l.i) l.gates l.count (drop l.i l.init) (drop l.i l.next) ≡ l.initial.eqns.items ++ register_eqns l.first l.gates l.count l.init l.next
