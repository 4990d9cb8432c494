use Rattle.law_values.proofs.filled.filled_reactions_agree.Goals as goal
use Rattle.law_values.proofs.FilledLemmas.Reactions.{agree, filled_agrees, same_outputs}

pub returns-clause-given : goal.returns-clause-given
returns-clause-given c = agree

pub returns-clause-places : goal.returns-clause-places
returns-clause-places c = filled_agrees

pub returns-clause-outputs : goal.returns-clause-outputs
returns-clause-outputs c = same_outputs
