use Rattle.law_equations.proofs.AnsweredLemmas.FirstLaws.{firsts_called}
use Rattle.law_equations.proofs.answered.calls_are_given_first_values.Goals as goal

pub returns : goal.returns
returns c = firsts_called
