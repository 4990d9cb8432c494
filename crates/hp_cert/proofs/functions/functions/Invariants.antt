use Rattle.hp_cert.specs.Steps.{AreOfMarked}
use Rattle.hp_diagram.specs.Diagrams.{Keeps}
use Rattle.hp_synth.specs.Layouts.{place}
use Rattle.hp_cert.proofs.functions.functions.Given as goal

abbrev pub invariant-loop-i : goal.invariant-loop-i
invariant-loop-i l = record { keeps : Keeps l.initial.t l.t; are : AreOfMarked (place l.layout) l.t l.lines l.marks l.refs.items l.i }
