use Rattle.law_values.proofs.AcceptedLemmas.Laws.{filled_value, value_of_first, no_star}
use Rattle.law_values.proofs.accepted.fitting_values_have_types.Goals as goal

pub returns-clause-filled : goal.returns-clause-filled
returns-clause-filled c = filled_value

pub returns-clause-first : goal.returns-clause-first
returns-clause-first c = value_of_first

pub returns-clause-unmarked : goal.returns-clause-unmarked
returns-clause-unmarked c = no_star
