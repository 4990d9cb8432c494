use Rattle.hp_meaning.proofs.contract.one_choice.Goals as goal
use Rattle.hp_meaning.proofs.ContractLemmas.Games.{one_choice as only_choice}

pub returns : goal.returns
returns c = only_choice
