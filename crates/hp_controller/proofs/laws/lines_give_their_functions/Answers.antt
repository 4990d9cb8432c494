use Rattle.hp_controller.proofs.laws.lines_give_their_functions.Goals as goal
use Rattle.hp_controller.proofs.ControllerLaws.{gives}
use Rattle.hp_controller.proofs.WellMadeLaws.{well_made}

pub returns : goal.returns
returns c = record { gives = gives; well_made = well_made }
