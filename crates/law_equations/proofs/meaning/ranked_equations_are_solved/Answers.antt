use Rattle.law_equations.proofs.meaning.ranked_equations_are_solved.Goals as goal
use Rattle.law_equations.proofs.MeaningLemmas.OneInstant.{only_law, some_law}

pub returns-clause-only : goal.returns-clause-only
returns-clause-only c = only_law

pub returns-clause-some : goal.returns-clause-some
returns-clause-some c = some_law
