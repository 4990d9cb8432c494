use Rattle.law_values.proofs.filled.programs_have_first_values.Goals as goal
use Rattle.law_values.proofs.FilledLemmas.Ready.{text_types, ready_firsts}

pub returns-clause-text : goal.returns-clause-text
returns-clause-text c = text_types

pub returns-clause-ready : goal.returns-clause-ready
returns-clause-ready c = ready_firsts
