use Rattle.law_choices.proofs.FlatLemmas.Nodes.{names_read}
use Rattle.law_choices.proofs.flat.equations_keep_names_under_each_choice.Goals as goal

pub returns : goal.returns
returns c = names_read
