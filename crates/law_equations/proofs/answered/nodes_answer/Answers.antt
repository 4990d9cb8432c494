use Rattle.law_equations.proofs.AnsweredLemmas.AnswerLaws.{some_answers, behave}
use Rattle.law_equations.proofs.answered.nodes_answer.Goals as goal

pub returns-clause-some : goal.returns-clause-some
returns-clause-some c = some_answers

pub returns-clause-behave : goal.returns-clause-behave
returns-clause-behave c = behave
