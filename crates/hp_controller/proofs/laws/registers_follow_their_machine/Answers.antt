use Rattle.hp_controller.proofs.laws.registers_follow_their_machine.Goals as goal
use Rattle.hp_controller.proofs.StepLaws.{steps, steered_law}

pub returns : goal.returns
returns c = record { registers = steps; controls = steered_law }
