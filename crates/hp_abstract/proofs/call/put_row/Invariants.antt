use Rattle.std.proofs.Common.{◌≡◌, drop}
use Rattle.hp_drawing.specs.DrawnNodes.{put_from}
use Rattle.hp_abstract.specs.Seen.{layer_of, told_in}
use Rattle.hp_abstract.proofs.call.put_row.Given as goal

abbrev pub invariant-loop-i : goal.invariant-loop-i
invariant-loop-i l = put_from (told_in l.tables) l.first l.i (drop l.i l.decls) (layer_of l.layer) ≡ put_from (told_in l.tables) l.first 0 l.decls (layer_of l.initial.layer)
