use Rattle.law_equations.proofs.AnsweredLemmas.NodeAnswerLaws.{node_answers}
use Rattle.law_equations.proofs.AnsweredLemmas.MadeFlatLaws.{made_flat}
use Rattle.law_equations.proofs.answered.equations_answer.Goals as goal

pub returns-clause-flat : goal.returns-clause-flat
returns-clause-flat c = node_answers

pub returns-clause-made : goal.returns-clause-made
returns-clause-made c = made_flat
