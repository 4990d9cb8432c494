use Rattle.law_choices.proofs.AddingLemmas.Adding.{adding_law, built_law, ordered_law}
use Rattle.law_choices.proofs.adding.equations_may_be_added.Goals as goal

pub returns-clause-built : goal.returns-clause-built
returns-clause-built c = built_law

pub returns-clause-adding : goal.returns-clause-adding
returns-clause-adding c = adding_law

pub returns-clause-ordered : goal.returns-clause-ordered
returns-clause-ordered c = ordered_law
