use Rattle.std.proofs.Common.{List, ◌++◌, drop}
use Rattle.hp_controller.specs.declared.decoding.Control.{Control}
use Rattle.hp_controlled.specs.Choosing.{AreControls}
use Rattle.hp_controlled.proofs.node.controls.Given as goal

abbrev pub invariant-loop-i : goal.invariant-loop-i
invariant-loop-i l = (more : List Control) → AreControls l.types (drop l.i l.variables) (drop l.i l.widths) more → AreControls l.types l.variables l.widths (l.controls.items ++ more)
