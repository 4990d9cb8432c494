use Rattle.std.proofs.Common.{◌≡◌, drop}
use Rattle.hp_drawing.specs.DrawnBlocks.{clock_on}
use Rattle.hp_drawing.specs.Seen.{sketch_of}
use Rattle.hp_abstract.specs.Seen.{scope_of, told_in}
use Rattle.hp_abstract.proofs.clock.clock_on.Given as goal

abbrev pub invariant-loop-cons : goal.invariant-loop-cons
invariant-loop-cons l =
    clock_on (told_in l.tables) (scope_of l.scope) l.clock (drop l.cons-index l.path) (sketch_of l.draft) ≡ clock_on (told_in l.tables) (scope_of l.scope) 0 l.path (sketch_of l.initial.draft)
