use Rattle.law_values.proofs.filled.one_filled_reaction.Goals as goal
use Rattle.law_values.proofs.FilledLemmas.Reactions.{one_filled_reaction}

pub returns : goal.returns
returns c = one_filled_reaction
