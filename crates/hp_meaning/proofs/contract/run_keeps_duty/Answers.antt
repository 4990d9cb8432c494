use Rattle.hp_meaning.proofs.contract.run_keeps_duty.Goals as goal
use Rattle.hp_meaning.proofs.ContractLemmas.Guarantees.{run_keeps}

pub returns : goal.returns
returns c = run_keeps
