use Rattle.law_choices.proofs.FilledLemmas.Reactions.{agree, same_outputs}
use Rattle.law_choices.proofs.filled.filled_reactions_agree_under_each_choice.Goals as goal

pub returns-clause-places : goal.returns-clause-places
returns-clause-places c = agree

pub returns-clause-outputs : goal.returns-clause-outputs
returns-clause-outputs c = same_outputs
