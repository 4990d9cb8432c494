use Rattle.std.proofs.Common.{◌≡◌, ◌++◌, drop}
use Rattle.hp_watch.specs.Observing.{inputs_for}
use Rattle.hp_watch.proofs.observer.add_inputs.Given as goal

abbrev pub invariant-loop-i : goal.invariant-loop-i
invariant-loop-i l = l.inputs.items ++ inputs_for l.i (drop l.i l.outputs) ≡ l.initial.inputs.items ++ inputs_for 0 l.outputs
