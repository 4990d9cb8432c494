use Rattle.std.proofs.Common.{take}
use Rattle.hp_diagram.specs.Diagrams.{Keeps}
use Rattle.hp_synth.specs.Layouts.{place}
use Rattle.hp_play.specs.Fields.{AreValues}
use Rattle.hp_play.proofs.picking.of_values.Given as goal

abbrev pub invariant-loop-i : goal.invariant-loop-i
invariant-loop-i l = AreValues (place l.layout) l.t l.from (take l.i l.values) l.all × Keeps l.initial.t l.t
