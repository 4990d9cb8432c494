use Rattle.hp_meaning.proofs.contract.instances_hold_callees.Goals as goal
use Rattle.hp_meaning.proofs.ContractLemmas.Callees.{instances_hold}

pub returns : goal.returns
returns c = instances_hold
