use Rattle.law_choices.proofs.FlatLemmas.Nodes.{equations_answer}
use Rattle.law_choices.proofs.flat.equations_answer_under_each_choice.Goals as goal

pub returns : goal.returns
returns c = equations_answer
