use Rattle.law_choices.proofs.PlayingLemmas.Controllers.{controller_answers_law}
use Rattle.law_choices.proofs.playing.controllers_answer.Goals as goal

pub returns : goal.returns
returns c = controller_answers_law c.controllers_answer_with_the_choice.ensures
