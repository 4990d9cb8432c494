use Rattle.std.proofs.Common.{◌≡◌, drop}
use Rattle.hp_drawing.specs.DrawnNodes.{put_outputs}
use Rattle.hp_abstract.specs.Seen.{layer_of, told_in}
use Rattle.hp_abstract.proofs.circuit.put_outputs.Given as goal

abbrev pub invariant-loop-output : goal.invariant-loop-output
invariant-loop-output l = put_outputs (told_in l.tables) (drop l.output-index l.outputs) (layer_of l.layer) ≡ put_outputs (told_in l.tables) l.outputs (layer_of l.initial.layer)
