use Rattle.hp_past.proofs.ExtendedLaws.{contracts-extend}
use Rattle.hp_past.proofs.laws.unfolded_contracts_remember.Goals as goal

pub returns : goal.returns
returns c = contracts-extend
