use Rattle.hp_meaning.proofs.causal.one_instant.Goals as goal
use Rattle.hp_meaning.proofs.CausalLemmas.Unique.{one_instant, one_filled}

pub returns-clause-as_read : goal.returns-clause-as_read
returns-clause-as_read c = one_instant

pub returns-clause-filled : goal.returns-clause-filled
returns-clause-filled c = one_filled
