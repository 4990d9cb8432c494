use Rattle.law_equations.proofs.AnsweredLemmas.FitLaws.{fits_law}
use Rattle.law_equations.proofs.answered.equations_fit.Goals as goal

pub returns : goal.returns
returns c = fits_law
