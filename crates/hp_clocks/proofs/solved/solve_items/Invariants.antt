use Rattle.std.proofs.Common.{drop}
use Rattle.hp_clocks.proofs.AnswerLaws.{SoFar}
use Rattle.hp_clocks.proofs.solved.solve_items.Given as goal

abbrev pub invariant-loop-item : goal.invariant-loop-item
invariant-loop-item l = SoFar l.items (drop l.item-index l.items) l.solved.items
