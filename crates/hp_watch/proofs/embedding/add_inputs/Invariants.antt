use Rattle.std.proofs.Common.{◌≡◌, drop}
use Rattle.hp_watch.specs.Embedding.{with_inputs}
use Rattle.hp_watch.proofs.embedding.add_inputs.Given as goal

abbrev pub invariant-loop-i : goal.invariant-loop-i
invariant-loop-i l = with_inputs l.clock l.target (drop l.i l.inputs) l.node ≡ with_inputs l.clock l.initial.target l.inputs l.initial.node
