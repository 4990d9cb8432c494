use Rattle.law_values.proofs.AcceptedLemmas.Laws.{outputs_are_here, ready_outputs}
use Rattle.law_values.proofs.accepted.outputs_have_values.Goals as goal

pub returns-clause-fitting : goal.returns-clause-fitting
returns-clause-fitting c = outputs_are_here

pub returns-clause-ready : goal.returns-clause-ready
returns-clause-ready c = ready_outputs
