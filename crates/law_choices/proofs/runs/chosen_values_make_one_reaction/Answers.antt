use Rattle.law_choices.proofs.RunsLemmas.Chosen.{one_law, of_program}
use Rattle.law_choices.proofs.runs.chosen_values_make_one_reaction.Goals as goal

pub returns-clause-one : goal.returns-clause-one
returns-clause-one c = one_law

pub returns-clause-of_program : goal.returns-clause-of_program
returns-clause-of_program c = of_program
