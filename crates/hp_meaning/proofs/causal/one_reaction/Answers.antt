use Rattle.hp_meaning.proofs.causal.one_reaction.Goals as goal
use Rattle.hp_meaning.proofs.CausalLemmas.Heights.{causal_reaction}
use Rattle.hp_meaning.proofs.CausalLemmas.Unique.{one_reaction as law, one_reaction_read as law_read}

pub returns-clause-as_it_is : goal.returns-clause-as_it_is
returns-clause-as_it_is c = law

pub returns-clause-as_read : goal.returns-clause-as_read
returns-clause-as_read c = law_read

pub returns-clause-of_causal : goal.returns-clause-of_causal
returns-clause-of_causal c = causal_reaction
