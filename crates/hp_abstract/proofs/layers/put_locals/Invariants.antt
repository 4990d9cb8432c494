use Rattle.std.proofs.Common.{◌≡◌, drop}
use Rattle.hp_drawing.specs.Seen.{sketch_of}
use Rattle.hp_abstract.specs.Seen.{layer_of, told_in}
use Rattle.hp_drawing.specs.Scopes.{put_locals}
use Rattle.hp_abstract.proofs.layers.put_locals.Given as goal

abbrev pub invariant-loop-i : goal.invariant-loop-i
invariant-loop-i l =
    put_locals (told_in l.tables) l.i (drop l.i l.locals) (layer_of l.layer) (sketch_of l.draft) ≡ put_locals (told_in l.tables) 0 l.locals (layer_of l.initial.layer) (sketch_of l.initial.draft)
