use Rattle.law_drawing.proofs.ReachedLemmas.Accepted.{filled-contract, node-reads}
use Rattle.law_drawing.proofs.reached.sound_nodes_are_read.Goals as goal

pub returns : goal.returns
returns c = record { contracts = filled-contract; nodes = node-reads }
