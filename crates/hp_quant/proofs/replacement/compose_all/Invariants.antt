use Rattle.hp_quant.proofs.ComposedEach.{ComposedSoFar}
use Rattle.hp_quant.proofs.replacement.compose_all.Given as goal

abbrev pub invariant-loop-i : goal.invariant-loop-i
invariant-loop-i l = ComposedSoFar l.fn.t l.t l.by l.refs l.made.items l.memo l.i
