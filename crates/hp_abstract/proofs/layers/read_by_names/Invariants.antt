use Rattle.std.proofs.Common.{◌≡◌, drop}
use Rattle.hp_drawing.specs.Seen.{sketch_of}
use Rattle.hp_abstract.specs.Seen.{layer_of}
use Rattle.hp_drawing.specs.Scopes.{read_by_names}
use Rattle.hp_abstract.proofs.layers.read_by_names.Given as goal

abbrev pub invariant-loop-i : goal.invariant-loop-i
invariant-loop-i l =
    read_by_names (drop l.i (layer_of l.hidden)) l.wire (sketch_of l.draft) ≡ read_by_names (layer_of l.hidden) l.wire (sketch_of l.initial.draft)
