use Rattle.hp_meaning.proofs.contract.kept_is_safe.Goals as goal
use Rattle.hp_meaning.proofs.ContractLemmas.Games.{kept}

pub returns : goal.returns
returns c = kept
