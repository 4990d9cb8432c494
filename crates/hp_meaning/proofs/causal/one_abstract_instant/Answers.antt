use Rattle.hp_meaning.proofs.causal.one_abstract_instant.Goals as goal
use Rattle.hp_meaning.proofs.CausalLemmas.AbstractOne.{abstract_one, abstract_history_one}

pub returns-clause-instant : goal.returns-clause-instant
returns-clause-instant c = abstract_one

pub returns-clause-history : goal.returns-clause-history
returns-clause-history c = abstract_history_one
