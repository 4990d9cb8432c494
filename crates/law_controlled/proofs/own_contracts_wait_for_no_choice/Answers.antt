use Rattle.law_controlled.proofs.OwnContractLaws.{own_contract_law}
use Rattle.law_controlled.proofs.own_contracts_wait_for_no_choice.Goals as goal

pub returns : goal.returns
returns c = own_contract_law c.variables_of_outputs_and_inputs.ensures c.observers_read_their_sites.ensures.own c.ready_programs_keep_dependence.ensures c.ready_programs_keep_contracts.ensures
