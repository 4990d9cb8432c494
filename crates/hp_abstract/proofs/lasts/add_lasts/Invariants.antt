use Rattle.std.proofs.Common.{◌≡◌, drop}
use Rattle.hp_drawing.specs.Scopes.{add_lasts}
use Rattle.hp_drawing.specs.Seen.{sketch_of}
use Rattle.hp_abstract.specs.Seen.{layer_of, told_in}
use Rattle.hp_abstract.proofs.lasts.add_lasts.Given as goal

abbrev pub invariant-loop-decl : goal.invariant-loop-decl
invariant-loop-decl l =
    add_lasts (told_in l.tables) l.place (drop l.decl-index l.decls) (layer_of l.values) (layer_of l.lasts) (sketch_of l.draft)
    ≡ add_lasts (told_in l.tables) l.place l.decls (layer_of l.values) (layer_of l.initial.lasts) (sketch_of l.initial.draft)
