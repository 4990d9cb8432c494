use Rattle.law_values.proofs.AcceptedLemmas.Laws.{accepted, ready_real, ready_filled}
use Rattle.law_values.proofs.accepted.ready_programs_are_accepted.Goals as goal

pub returns-clause-accepted : goal.returns-clause-accepted
returns-clause-accepted c = accepted

pub returns-clause-real : goal.returns-clause-real
returns-clause-real c = ready_real

pub returns-clause-filled : goal.returns-clause-filled
returns-clause-filled c = ready_filled
