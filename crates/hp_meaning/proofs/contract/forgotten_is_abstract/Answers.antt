use Rattle.hp_meaning.proofs.contract.forgotten_is_abstract.Goals as goal
use Rattle.hp_meaning.proofs.ContractLemmas.ForgetsNodes.{erased_law}

pub returns : goal.returns
returns c = erased_law
