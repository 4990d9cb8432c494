use Rattle.hp_meaning.proofs.contract.duty_is_kept.Goals as goal
use Rattle.hp_meaning.proofs.ContractLemmas.Games.{guaranteed}

pub returns : goal.returns
returns c = guaranteed
