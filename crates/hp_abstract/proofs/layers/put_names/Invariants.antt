use Rattle.std.proofs.Common.{◌≡◌, drop, map}
use Rattle.hp_drawing.specs.Seen.{sketch_of}
use Rattle.hp_abstract.specs.Seen.{layer_of, now_of, scope_of}
use Rattle.hp_drawing.specs.Scopes.{put_names}
use Rattle.hp_abstract.proofs.layers.put_names.Given as goal

abbrev pub invariant-loop-i : goal.invariant-loop-i
invariant-loop-i l =
    put_names (scope_of l.scope) (map now_of (drop l.i l.names)) (layer_of l.layer) (sketch_of l.draft) ≡ put_names (scope_of l.scope) (map now_of l.names) (layer_of l.initial.layer) (sketch_of l.initial.draft)
