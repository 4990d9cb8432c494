use Rattle.std.proofs.Common.{◌≡◌, drop}
use Rattle.hp_drawing.specs.DrawnExpressions.{add_outputs}
use Rattle.hp_drawing.specs.Seen.{sketch_of}
use Rattle.hp_abstract.specs.Seen.{told_in}
use Rattle.hp_abstract.proofs.call.add_outputs.Given as goal

abbrev pub invariant-loop-output : goal.invariant-loop-output
invariant-loop-output l =
    add_outputs (told_in l.tables) l.may_be_early (drop l.output-index l.outputs) l.reads (sketch_of l.draft) ≡ add_outputs (told_in l.tables) l.may_be_early l.outputs l.reads (sketch_of l.initial.draft)
