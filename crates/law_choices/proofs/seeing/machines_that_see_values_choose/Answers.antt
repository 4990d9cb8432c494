use Rattle.law_choices.proofs.SeeingLemmas.Values.{values_choice_law, values_play_law}
use Rattle.law_choices.proofs.seeing.machines_that_see_values_choose.Goals as goal

pub returns-clause-plays : goal.returns-clause-plays
returns-clause-plays c = values_play_law

pub returns-clause-choice : goal.returns-clause-choice
returns-clause-choice c = values_choice_law c.machines_go_along.ensures.played
