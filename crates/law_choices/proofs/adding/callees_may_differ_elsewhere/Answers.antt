use Rattle.law_choices.proofs.AddingLemmas.Called.{called_law}
use Rattle.law_choices.proofs.adding.callees_may_differ_elsewhere.Goals as goal

pub returns : goal.returns
returns c = called_law
