use Rattle.law_drawing.proofs.EarlyLemmas.Nodes.{node-flagged}
use Rattle.law_drawing.proofs.early.slots_are_flagged.Goals as goal

pub returns : goal.returns
returns c = node-flagged
