use Rattle.hp_meaning.proofs.contract.codes_of_values.Goals as goal
use Rattle.hp_meaning.proofs.ContractLemmas.CodeLaws.{code_law, width_law}

pub returns-clause-numbers : goal.returns-clause-numbers
returns-clause-numbers c = code_law

pub returns-clause-least_bits : goal.returns-clause-least_bits
returns-clause-least_bits c = width_law
