use Rattle.hp_meaning.proofs.contract.run_keeps_contracts.Goals as goal
use Rattle.hp_meaning.proofs.ContractLemmas.KeptContracts.{contracts_kept, run_contracts_kept}

pub returns-clause-reaction : goal.returns-clause-reaction
returns-clause-reaction c = contracts_kept

pub returns-clause-run : goal.returns-clause-run
returns-clause-run c = run_contracts_kept
