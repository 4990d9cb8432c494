use Rattle.law_equations.proofs.FittingLemmas.NodeNames.{free-law}
use Rattle.law_equations.proofs.fitting.larger_names_are_free.Goals as goal

pub returns : goal.returns
returns c = free-law
