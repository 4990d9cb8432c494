use Rattle.std.proofs.Common.{◌≡◌, drop}
use Rattle.hp_drawing.specs.DrawnBlocks.{define_all}
use Rattle.hp_drawing.specs.Seen.{sketch_of}
use Rattle.hp_abstract.specs.Seen.{scope_of}
use Rattle.hp_abstract.proofs.definition.define_all.Given as goal

abbrev pub invariant-loop-name : goal.invariant-loop-name
invariant-loop-name l = define_all (scope_of l.scope) (drop l.name-index l.names) l.value (sketch_of l.draft) ≡ define_all (scope_of l.scope) l.names l.value (sketch_of l.initial.draft)
