use Rattle.law_values.proofs.filled.types_have_first_values.Goals as goal
use Rattle.law_values.proofs.FilledLemmas.Values.{first_is}

pub returns : goal.returns
returns c = first_is
