use Rattle.law_values.proofs.filled.first_values_fit.Goals as goal
use Rattle.law_values.proofs.FilledLemmas.Programs.{firsts_fit}
use Rattle.law_values.proofs.FilledLemmas.Reactions.{alone, filled_fits}

pub returns-clause-given : goal.returns-clause-given
returns-clause-given c = firsts_fit

pub returns-clause-instants : goal.returns-clause-instants
returns-clause-instants c = filled_fits

pub returns-clause-alone : goal.returns-clause-alone
returns-clause-alone c = alone
