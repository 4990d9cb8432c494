use Rattle.law_choices.proofs.FlatLemmas.Nodes.{places_read}
use Rattle.law_choices.proofs.flat.equations_keep_places_under_each_choice.Goals as goal

pub returns : goal.returns
returns c = places_read
