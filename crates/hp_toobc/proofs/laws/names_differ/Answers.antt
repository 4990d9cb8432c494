use Rattle.hp_toobc.proofs.NameLaws.{names_differ}
use Rattle.hp_toobc.proofs.laws.names_differ.Goals as goal

pub returns : goal.returns
returns c = names_differ
