use Rattle.hp_synth.specs.Layouts.{place}
use Rattle.hp_synth.proofs.Gates.{SoFar}
use Rattle.hp_synth.proofs.building.gate_diagrams.Given as goal

abbrev pub invariant-loop-i : goal.invariant-loop-i
invariant-loop-i l = SoFar (place l.layout) l.initial.t l.t l.gates l.refs.items l.i
