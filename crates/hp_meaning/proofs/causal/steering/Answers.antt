use Rattle.hp_meaning.proofs.causal.steering.Goals as goal
use Rattle.hp_meaning.proofs.CausalLemmas.Clocks.{early}
use Rattle.hp_meaning.proofs.CausalLemmas.Unsteered.{steering, abstract_steering}

pub returns-clause-real : goal.returns-clause-real
returns-clause-real c = steering

pub returns-clause-in_abstraction : goal.returns-clause-in_abstraction
returns-clause-in_abstraction c = abstract_steering

pub returns-clause-early : goal.returns-clause-early
returns-clause-early c = early
