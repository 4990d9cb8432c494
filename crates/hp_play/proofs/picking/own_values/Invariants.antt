use Rattle.std.proofs.Common.{◌≡◌}
use Rattle.hp_diagram.specs.Diagrams.{valuation}
use Rattle.hp_synth.specs.Layouts.{place}
use Rattle.hp_synth.specs.Valued.{read, through}
use Rattle.hp_play.proofs.picking.own_values.Given as goal

abbrev pub invariant-loop-x : goal.invariant-loop-x
invariant-loop-x l = l.values.items ≡ read 0 l.x (through (place l.layout) (valuation l.placed))
