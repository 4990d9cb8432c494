use Rattle.hp_meaning.proofs.contract.forced_once_more.Goals as goal
use Rattle.hp_meaning.proofs.ContractLemmas.Games.{forced_more}

pub returns : goal.returns
returns c = forced_more
