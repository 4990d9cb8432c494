use Rattle.hp_meaning.proofs.causal.ranks_of_points.Goals as goal
use Rattle.hp_meaning.proofs.CausalLemmas.Ranking.{ranks_enough, all_ranks_enough}

pub returns-clause-node : goal.returns-clause-node
returns-clause-node c = ranks_enough

pub returns-clause-program : goal.returns-clause-program
returns-clause-program c = all_ranks_enough
