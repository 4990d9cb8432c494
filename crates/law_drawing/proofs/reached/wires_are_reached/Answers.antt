use Rattle.law_drawing.proofs.ReachedLemmas.Nodes.{node-reached, assumption-reached}
use Rattle.law_drawing.proofs.reached.wires_are_reached.Goals as goal

pub returns-clause-slots : goal.returns-clause-slots
returns-clause-slots c = node-reached

pub returns-clause-assumed : goal.returns-clause-assumed
returns-clause-assumed c = assumption-reached
