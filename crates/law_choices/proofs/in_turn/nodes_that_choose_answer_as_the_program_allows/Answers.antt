use Rattle.law_choices.proofs.InTurnLemmas.Allowed.{allowed_run_law}
use Rattle.law_choices.proofs.in_turn.nodes_that_choose_answer_as_the_program_allows.Goals as goal

pub returns : goal.returns
returns c = allowed_run_law c.chosen_values_make_one_reaction.ensures.of_program
