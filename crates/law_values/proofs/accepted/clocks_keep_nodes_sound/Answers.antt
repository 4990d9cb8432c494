use Rattle.law_values.proofs.AcceptedLemmas.Laws.{clocked_sound}
use Rattle.law_values.proofs.accepted.clocks_keep_nodes_sound.Goals as goal

pub returns : goal.returns
returns c = clocked_sound
