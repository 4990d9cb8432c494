use Rattle.law_choices.proofs.chosen.typed_early_values_come.Goals as goal
use Rattle.law_choices.proofs.ChosenLemmas.Chosen.{comes}

pub returns : goal.returns
returns c = comes
