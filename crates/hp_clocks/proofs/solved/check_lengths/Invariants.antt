use Rattle.std.proofs.Common.{drop}
use Rattle.hp_clocks.proofs.AnswerLaws.{ShortSoFar}
use Rattle.hp_clocks.proofs.solved.check_lengths.Given as goal

abbrev pub invariant-loop-node : goal.invariant-loop-node
invariant-loop-node l = ShortSoFar l.nodes (drop l.node-index l.nodes)
