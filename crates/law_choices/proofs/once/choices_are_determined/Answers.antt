use Rattle.law_choices.proofs.once.choices_are_determined.Goals as goal
use Rattle.law_choices.proofs.OnceLemmas.Once.{chosen_is_determined, followed_is_determined}

pub returns-clause-chosen : goal.returns-clause-chosen
returns-clause-chosen c = chosen_is_determined c.one_choice.ensures

pub returns-clause-followed : goal.returns-clause-followed
returns-clause-followed c = followed_is_determined
