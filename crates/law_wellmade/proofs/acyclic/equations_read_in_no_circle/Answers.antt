use Rattle.law_wellmade.proofs.AcyclicLemmas.NodeLaws.{node_has_no_circle, nodes_have_no_circle}
use Rattle.law_wellmade.proofs.acyclic.equations_read_in_no_circle.Goals as goal

pub returns-clause-node : goal.returns-clause-node
returns-clause-node c = node_has_no_circle

pub returns-clause-program : goal.returns-clause-program
returns-clause-program c = nodes_have_no_circle
