use Rattle.law_choices.proofs.chosen.nil_choices_are_kept.Goals as goal
use Rattle.law_choices.proofs.ChosenLemmas.Seen.{seen_choices}
use Rattle.law_choices.proofs.ChosenLemmas.Chosen.{seen_alike, nil_choices}

pub returns-clause-alike : goal.returns-clause-alike
returns-clause-alike c = seen_alike

pub returns-clause-seen : goal.returns-clause-seen
returns-clause-seen c = seen_choices

pub returns-clause-choices : goal.returns-clause-choices
returns-clause-choices c = nil_choices
