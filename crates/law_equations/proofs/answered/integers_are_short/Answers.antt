use Rattle.law_equations.proofs.AnsweredLemmas.ShortLaws.{short_law}
use Rattle.law_equations.proofs.answered.integers_are_short.Goals as goal

pub returns : goal.returns
returns c = short_law
