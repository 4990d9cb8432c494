use Rattle.hp_controller.proofs.laws.controlled_nodes_follow_their_controller.Goals as goal
use Rattle.hp_controller.proofs.ControlledLaws.{controlled_law}

pub returns : goal.returns
returns c = controlled_law
