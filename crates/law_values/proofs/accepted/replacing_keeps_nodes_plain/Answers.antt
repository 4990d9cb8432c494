use Rattle.law_values.proofs.AcceptedLemmas.Laws.{plain}
use Rattle.law_values.proofs.accepted.replacing_keeps_nodes_plain.Goals as goal

pub returns : goal.returns
returns c = plain
