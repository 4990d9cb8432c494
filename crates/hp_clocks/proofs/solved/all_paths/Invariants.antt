use Rattle.std.proofs.Common.{◌≡◌, ◌++◌, drop}
use Rattle.hp_clocks.specs.Writing.{paths_seen}
use Rattle.hp_clocks.specs.Answers.{all_paths}
use Rattle.hp_clocks.proofs.solved.all_paths.Given as goal

abbrev pub invariant-loop-node : goal.invariant-loop-node
invariant-loop-node l = paths_seen l.paths.items ++ all_paths (drop l.node-index l.nodes) ≡ all_paths l.nodes
