use Rattle.law_choices.proofs.ClosedLemmas.Clocking.{fit_law, well_made_law}
use Rattle.law_choices.proofs.ClosedLemmas.Cases.{some_law}
use Rattle.law_choices.proofs.closed.clocks_fit.Goals as goal

pub returns-clause-fit : goal.returns-clause-fit
returns-clause-fit c = fit_law

pub returns-clause-made : goal.returns-clause-made
returns-clause-made c = well_made_law

pub returns-clause-some : goal.returns-clause-some
returns-clause-some c = some_law
