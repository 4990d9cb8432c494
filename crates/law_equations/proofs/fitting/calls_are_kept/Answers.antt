use Rattle.law_equations.proofs.FittingLemmas.CallSteps.{calls-law}
use Rattle.law_equations.proofs.fitting.calls_are_kept.Goals as goal

pub returns : goal.returns
returns c = calls-law
