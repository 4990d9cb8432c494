use Rattle.hp_machines.proofs.CopiesLaws.{none_needless}
use Rattle.hp_machines.proofs.laws.no_needless_copies_are_left.Goals as goal

pub returns : goal.returns
returns c = none_needless
