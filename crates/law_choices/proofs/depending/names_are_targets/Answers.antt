use Rattle.law_choices.proofs.DependingLemmas.Targets.{targets_law}
use Rattle.law_choices.proofs.depending.names_are_targets.Goals as goal

pub returns : goal.returns
returns c = targets_law
