use Rattle.law_automata.proofs.LoweredLemmas.RankSteps.{node_ranks_law, ranks_law}
use Rattle.law_automata.proofs.lowered.ranks_are_kept.Goals as goal

pub returns-clause-node : goal.returns-clause-node
returns-clause-node c = node_ranks_law

pub returns-clause-program : goal.returns-clause-program
returns-clause-program c = ranks_law
