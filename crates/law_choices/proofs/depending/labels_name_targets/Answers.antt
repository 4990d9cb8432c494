use Rattle.law_choices.proofs.depending.labels_name_targets.Goals as goal
use Rattle.law_choices.proofs.DependingLemmas.MeantLaws.{labels_mean_law}

pub returns : goal.returns
returns c = labels_mean_law
