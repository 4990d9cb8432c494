use Rattle.law_values.proofs.AcceptedLemmas.Laws.{has_classes}
use Rattle.law_values.proofs.accepted.met_wishes_give_classes.Goals as goal

pub returns : goal.returns
returns c = has_classes
