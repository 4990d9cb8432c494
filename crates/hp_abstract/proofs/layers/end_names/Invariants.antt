use Rattle.std.proofs.Common.{◌≡◌, drop}
use Rattle.hp_drawing.specs.Seen.{sketch_of}
use Rattle.hp_abstract.specs.Seen.{layer_of}
use Rattle.hp_drawing.specs.Scopes.{end_names}
use Rattle.hp_abstract.proofs.layers.end_names.Given as goal

abbrev pub invariant-loop-i : goal.invariant-loop-i
invariant-loop-i l =
    end_names (drop l.i (layer_of l.hidden)) (sketch_of l.draft) ≡ end_names (layer_of l.hidden) (sketch_of l.initial.draft)
