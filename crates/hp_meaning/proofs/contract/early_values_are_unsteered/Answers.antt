use Rattle.hp_meaning.proofs.contract.early_values_are_unsteered.Goals as goal
use Rattle.hp_meaning.proofs.ContractLemmas.Beside.{early_values, abstract_early_values}

pub returns-clause-as_read : goal.returns-clause-as_read
returns-clause-as_read c = early_values

pub returns-clause-in_abstraction : goal.returns-clause-in_abstraction
returns-clause-in_abstraction c = abstract_early_values
