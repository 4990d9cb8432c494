use Rattle.hp_meaning.proofs.causal.one_by_given_values.Goals as goal
use Rattle.hp_meaning.proofs.CausalLemmas.LookedAt.{one_by_controls, one_by_free}

pub returns-clause-reaction : goal.returns-clause-reaction
returns-clause-reaction c = one_by_controls

pub returns-clause-abstract_instant : goal.returns-clause-abstract_instant
returns-clause-abstract_instant c = one_by_free
