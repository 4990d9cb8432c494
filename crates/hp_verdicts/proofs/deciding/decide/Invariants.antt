use Rattle.std.proofs.Common.{take}
use Rattle.hp_verdicts.specs.Decided.{AreKept}
use Rattle.hp_verdicts.proofs.deciding.decide.Given as goal

abbrev pub invariant-loop-item : goal.invariant-loop-item
invariant-loop-item l = AreKept l.program (take l.item-index l.item-items)
