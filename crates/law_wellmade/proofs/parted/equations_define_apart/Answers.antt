use Rattle.law_wellmade.proofs.PartedLemmas.Nodes.{node-law, program-law}
use Rattle.law_wellmade.proofs.parted.equations_define_apart.Goals as goal

pub returns-clause-node : goal.returns-clause-node
returns-clause-node c = node-law

pub returns-clause-program : goal.returns-clause-program
returns-clause-program c = program-law
