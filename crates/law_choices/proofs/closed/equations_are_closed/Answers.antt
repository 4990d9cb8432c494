use Rattle.law_choices.proofs.ClosedLemmas.ClosedLaws.{closed_law, within_law}
use Rattle.law_choices.proofs.closed.equations_are_closed.Goals as goal

pub returns-clause-closed : goal.returns-clause-closed
returns-clause-closed c = closed_law

pub returns-clause-within : goal.returns-clause-within
returns-clause-within c = within_law
