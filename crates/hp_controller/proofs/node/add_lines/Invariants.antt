use Rattle.std.proofs.Common.{◌≡◌, ◌++◌, drop}
use Rattle.hp_controller.specs.Controllers.{line_eqns}
use Rattle.hp_controller.proofs.node.add_lines.Given as goal

abbrev pub invariant-loop-i : goal.invariant-loop-i
invariant-loop-i l = l.eqns.items ++ line_eqns l.inputs l.i (drop l.i l.lines) ≡ l.initial.eqns.items ++ line_eqns l.inputs 0 l.lines
