use Rattle.std.proofs.Common.{◌≡◌, drop}
use Rattle.hp_drawing.specs.DrawnBlocks.{define_each}
use Rattle.hp_drawing.specs.Seen.{sketch_of}
use Rattle.hp_abstract.specs.Seen.{scope_of}
use Rattle.hp_abstract.proofs.definition.define_each.Given as goal

abbrev pub invariant-loop-i : goal.invariant-loop-i
invariant-loop-i l = define_each (scope_of l.scope) l.callee l.i (drop l.i l.names) (sketch_of l.draft) ≡ define_each (scope_of l.scope) l.callee 0 l.names (sketch_of l.initial.draft)
