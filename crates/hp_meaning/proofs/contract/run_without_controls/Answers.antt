use Rattle.hp_meaning.proofs.contract.run_without_controls.Goals as goal
use Rattle.hp_meaning.proofs.ContractLemmas.Uncontrolled.{uncontrolled}

pub returns : goal.returns
returns c = uncontrolled
