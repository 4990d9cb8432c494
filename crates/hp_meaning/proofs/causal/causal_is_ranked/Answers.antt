use Rattle.hp_meaning.proofs.causal.causal_is_ranked.Goals as goal
use Rattle.hp_meaning.proofs.CausalLemmas.Heights.{order, causal_programs}

pub returns-clause-node : goal.returns-clause-node
returns-clause-node c = order

pub returns-clause-program : goal.returns-clause-program
returns-clause-program c = causal_programs
