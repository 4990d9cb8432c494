use Rattle.law_choices.proofs.PlayingLemmas.Inputs.{inputs_choice_law}
use Rattle.law_choices.proofs.playing.machines_that_know_all_choose.Goals as goal

pub returns : goal.returns
returns c = inputs_choice_law c.permitted_is_fitting.ensures.instants c.machines_go_along.ensures.played
