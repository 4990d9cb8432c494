use Rattle.law_choices.proofs.AnsweredLemmas.OneLoop.{loop_law}
use Rattle.law_choices.proofs.AnsweredLemmas.Loops.{loops_law}
use Rattle.law_choices.proofs.answered.closed_loops_answer_under_a_choice.Goals as goal

pub returns-clause-one : goal.returns-clause-one
returns-clause-one c = loop_law

pub returns-clause-nodes : goal.returns-clause-nodes
returns-clause-nodes c = loops_law c.nodes_have_one_reaction.ensures.one
