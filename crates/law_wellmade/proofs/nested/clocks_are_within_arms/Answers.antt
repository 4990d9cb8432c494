use Rattle.law_wellmade.proofs.NestedLemmas.Blocks.{node_law}
use Rattle.law_wellmade.proofs.NestedLemmas.Written.{written_law}
use Rattle.law_wellmade.proofs.NestedLemmas.Lowered.{lowered_law}
use Rattle.law_wellmade.proofs.nested.clocks_are_within_arms.Goals as goal

pub returns-clause-node : goal.returns-clause-node
returns-clause-node c = node_law

pub returns-clause-written : goal.returns-clause-written
returns-clause-written c = written_law

pub returns-clause-lowered : goal.returns-clause-lowered
returns-clause-lowered c = lowered_law
