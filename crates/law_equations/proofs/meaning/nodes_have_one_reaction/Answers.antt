use Rattle.law_equations.proofs.meaning.nodes_have_one_reaction.Goals as goal
use Rattle.law_equations.proofs.MeaningLemmas.OneReaction.{one_reaction_law, outputs_of_kinds_law}

pub returns-clause-one : goal.returns-clause-one
returns-clause-one c = one_reaction_law

pub returns-clause-outputs : goal.returns-clause-outputs
returns-clause-outputs c = outputs_of_kinds_law
