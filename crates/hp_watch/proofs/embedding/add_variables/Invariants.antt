use Rattle.std.proofs.Common.{◌≡◌, drop}
use Rattle.hp_watch.specs.Embedding.{with_variables}
use Rattle.hp_watch.proofs.embedding.add_variables.Given as goal

abbrev pub invariant-loop-i : goal.invariant-loop-i
invariant-loop-i l = with_variables (drop l.i l.variables) l.node ≡ with_variables l.variables l.initial.node
