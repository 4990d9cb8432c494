use Rattle.hp_cert.proofs.MarkLaws.{Begun}
use Rattle.hp_cert.proofs.marks.mark_roots.Given as goal

abbrev pub invariant-loop-r : goal.invariant-loop-r
invariant-loop-r l = Begun l.lines l.roots l.marks l.r-index
