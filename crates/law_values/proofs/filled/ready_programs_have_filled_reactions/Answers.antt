use Rattle.law_values.proofs.filled.ready_programs_have_filled_reactions.Goals as goal
use Rattle.law_values.proofs.FilledLemmas.Ready.{ready_form, ready_outputs}

pub returns-clause-form : goal.returns-clause-form
returns-clause-form c = ready_form

pub returns-clause-outputs : goal.returns-clause-outputs
returns-clause-outputs c = ready_outputs
