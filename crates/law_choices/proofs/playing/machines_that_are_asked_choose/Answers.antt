use Rattle.law_choices.proofs.PlayingLemmas.Playing.{playing_law, steered_choice_law}
use Rattle.law_choices.proofs.playing.machines_that_are_asked_choose.Goals as goal

pub returns-clause-playing : goal.returns-clause-playing
returns-clause-playing c = playing_law

pub returns-clause-choice : goal.returns-clause-choice
returns-clause-choice c = steered_choice_law c.machines_go_along.ensures.played
