use Rattle.law_equations.proofs.fewer.fewer_copies_keep_reactions.Goals as goal
use Rattle.law_equations.proofs.FewerLemmas.NormalLaws.{normal_law}

pub returns : goal.returns
returns c = normal_law
