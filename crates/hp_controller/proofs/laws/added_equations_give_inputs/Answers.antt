use Rattle.hp_controller.proofs.laws.added_equations_give_inputs.Goals as goal
use Rattle.hp_controller.proofs.ExtendingLaws.{extended_law}

pub returns : goal.returns
returns c = extended_law
