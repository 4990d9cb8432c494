use Rattle.law_choices.proofs.AddingLemmas.Decoding.{controlled_stays}
use Rattle.law_choices.proofs.AddingLemmas.Machine.{steps_keep}
use Rattle.law_choices.proofs.adding.machines_may_be_asked.Goals as goal

pub returns-clause-steps : goal.returns-clause-steps
returns-clause-steps c = steps_keep

pub returns-clause-controlled : goal.returns-clause-controlled
returns-clause-controlled c = controlled_stays
