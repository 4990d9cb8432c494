use Rattle.std.proofs.Common.{◌≡◌, drop}
use Rattle.hp_drawing.specs.DrawnExpressions.{add_holes}
use Rattle.hp_drawing.specs.Seen.{sketch_of}
use Rattle.hp_abstract.specs.Seen.{told_in}
use Rattle.hp_abstract.proofs.call.add_holes.Given as goal

abbrev pub invariant-loop-decl : goal.invariant-loop-decl
invariant-loop-decl l = add_holes (told_in l.tables) (drop l.decl-index l.decls) (sketch_of l.draft) ≡ add_holes (told_in l.tables) l.decls (sketch_of l.initial.draft)
