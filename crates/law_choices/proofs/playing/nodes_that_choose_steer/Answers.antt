use Rattle.law_choices.proofs.PlayingLemmas.Steering.{whole_run_law}
use Rattle.law_choices.proofs.playing.nodes_that_choose_steer.Goals as goal

pub returns : goal.returns
returns c = whole_run_law c.added_equations_give_inputs.ensures c.controlled_nodes_follow_their_controller.ensures
