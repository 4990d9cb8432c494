use Rattle.law_choices.proofs.ObservedLemmas.Worked.{some_observed}
use Rattle.law_choices.proofs.observed.a_worked_observer.Goals as goal

pub returns : goal.returns
returns c = some_observed
