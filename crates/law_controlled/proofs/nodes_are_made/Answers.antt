use Rattle.law_controlled.proofs.MadeLaws.{made_nodes}
use Rattle.law_controlled.proofs.nodes_are_made.Goals as goal

pub returns : goal.returns
returns c = made_nodes
