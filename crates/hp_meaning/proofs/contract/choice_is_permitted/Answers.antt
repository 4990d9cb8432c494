use Rattle.hp_meaning.proofs.contract.choice_is_permitted.Goals as goal
use Rattle.hp_meaning.proofs.ContractLemmas.Games.{permitted, chosen, allowed}

pub returns-clause-some : goal.returns-clause-some
returns-clause-some c = permitted

pub returns-clause-chosen : goal.returns-clause-chosen
returns-clause-chosen c = chosen

pub returns-clause-allowed : goal.returns-clause-allowed
returns-clause-allowed c = allowed
