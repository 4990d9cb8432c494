use Rattle.law_values.proofs.valued.values_fit.Goals as goal
use Rattle.law_values.proofs.ValuedLemmas.Programs.{values, real_values, filled_values}

pub returns-clause-any : goal.returns-clause-any
returns-clause-any c = values

pub returns-clause-real : goal.returns-clause-real
returns-clause-real c = real_values

pub returns-clause-filled : goal.returns-clause-filled
returns-clause-filled c = filled_values
