use Rattle.std.proofs.Common.{◌≡◌, drop}
use Rattle.hp_drawing.specs.DrawnBlocks.{drawn_transitions}
use Rattle.hp_drawing.specs.Seen.{sketch_of}
use Rattle.hp_abstract.specs.Seen.{scope_of, told_in, words_in}
use Rattle.hp_abstract.proofs.block.draw_jump.Given as goal

abbrev pub invariant-loop-transition : goal.invariant-loop-transition
invariant-loop-transition g l =
    drawn_transitions (told_in l.tables) g.C.Callees.brings (scope_of l.scope) l.place (words_in l.words) (drop l.transition-index l.transitions) l.rest (sketch_of l.draft)
    ≡ drawn_transitions (told_in l.tables) g.C.Callees.brings (scope_of l.scope) l.place (words_in l.words) l.transitions l.initial.rest (sketch_of l.initial.draft)
