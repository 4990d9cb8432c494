use Rattle.hp_diagram.specs.Diagrams.{Keeps}
use Rattle.hp_synth.specs.Renamed.{AreNamed}
use Rattle.hp_synth.proofs.renaming.names.Given as goal

abbrev pub invariant-loop-x : goal.invariant-loop-x
invariant-loop-x l = Keeps l.initial.t l.t × AreNamed l.layout l.t l.x l.by.items
