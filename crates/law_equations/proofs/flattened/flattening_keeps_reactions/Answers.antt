use Rattle.law_equations.proofs.flattened.flattening_keeps_reactions.Goals as goal
use Rattle.law_equations.proofs.FlattenedLemmas.FlatteningLaw.{flattens}

pub returns : goal.returns
returns c = flattens
