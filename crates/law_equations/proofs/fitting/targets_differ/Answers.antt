use Rattle.law_equations.proofs.FittingLemmas.NodeGrowth.{targets-law}
use Rattle.law_equations.proofs.fitting.targets_differ.Goals as goal

pub returns : goal.returns
returns c = targets-law
