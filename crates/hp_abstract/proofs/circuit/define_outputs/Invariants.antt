use Rattle.std.proofs.Common.{◌≡◌, drop}
use Rattle.hp_drawing.specs.DrawnNodes.{define_from}
use Rattle.hp_drawing.specs.Seen.{sketch_of}
use Rattle.hp_abstract.specs.Seen.{scope_of}
use Rattle.hp_abstract.proofs.circuit.define_outputs.Given as goal

abbrev pub invariant-loop-i : goal.invariant-loop-i
invariant-loop-i l = define_from (scope_of l.scope) l.first l.i (drop l.i l.outputs) (sketch_of l.draft) ≡ define_from (scope_of l.scope) l.first 0 l.outputs (sketch_of l.initial.draft)
