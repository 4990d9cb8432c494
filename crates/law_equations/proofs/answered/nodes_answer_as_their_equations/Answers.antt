use Rattle.law_equations.proofs.AnsweredLemmas.AnsweredLaws.{answered, all_answered}
use Rattle.law_equations.proofs.answered.nodes_answer_as_their_equations.Goals as goal

pub returns-clause-answered : goal.returns-clause-answered
returns-clause-answered c = answered

pub returns-clause-all : goal.returns-clause-all
returns-clause-all c = all_answered
