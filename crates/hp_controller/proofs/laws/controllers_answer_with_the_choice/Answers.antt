use Rattle.hp_controller.proofs.laws.controllers_answer_with_the_choice.Goals as goal
use Rattle.hp_controller.proofs.StepLaws.{controllers_answer}

pub returns : goal.returns
returns c = controllers_answer
