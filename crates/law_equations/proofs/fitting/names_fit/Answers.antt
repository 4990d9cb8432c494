use Rattle.law_equations.proofs.FittingLemmas.NodeNames.{names-law}
use Rattle.law_equations.proofs.fitting.names_fit.Goals as goal

pub returns : goal.returns
returns c = names-law
