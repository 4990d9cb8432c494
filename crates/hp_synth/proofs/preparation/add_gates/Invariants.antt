use Rattle.std.proofs.Common.{◌≡◌, ◌++◌, map, take, slice_index_or}
use Rattle.hp_diagram.specs.Diagrams.{zero_ref}
use Rattle.hp_synth.proofs.preparation.add_gates.Given as goal

abbrev pub invariant-loop-i : goal.invariant-loop-i
invariant-loop-i l = l.roots.items ≡ l.initial.roots.items ++ map (λ k. slice_index_or l.gates k zero_ref) (take l.i l.numbers)
