use Rattle.hp_controller.proofs.laws.gates_have_their_values.Goals as goal
use Rattle.hp_controller.proofs.GateLaws.{gates_valued}

pub returns : goal.returns
returns c = gates_valued
