use Rattle.std.proofs.Common.{◌≡◌, ◌+◌, ◌++◌, drop}
use Rattle.hp_controller.specs.Controllers.{output_eqns}
use Rattle.hp_controller.proofs.node.add_outputs.Given as goal

abbrev pub invariant-loop-i : goal.invariant-loop-i
invariant-loop-i l = l.eqns.items ++ output_eqns l.inputs l.lines (l.lines + l.i) (drop l.i l.numbers) ≡ l.initial.eqns.items ++ output_eqns l.inputs l.lines l.lines l.numbers
