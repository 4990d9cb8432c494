use Rattle.law_choices.proofs.FlatLemmas.Behave.{some_answers, behave}
use Rattle.law_choices.proofs.flat.chosen_nodes_answer.Goals as goal

pub returns-clause-some : goal.returns-clause-some
returns-clause-some c = some_answers

pub returns-clause-behave : goal.returns-clause-behave
returns-clause-behave c = behave
