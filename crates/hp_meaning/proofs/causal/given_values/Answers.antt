use Rattle.hp_meaning.proofs.causal.given_values.Goals as goal
use Rattle.hp_meaning.proofs.CausalLemmas.LookedAt.{given_law, abstract_given}

pub returns-clause-real : goal.returns-clause-real
returns-clause-real c = given_law

pub returns-clause-in_abstraction : goal.returns-clause-in_abstraction
returns-clause-in_abstraction c = abstract_given
