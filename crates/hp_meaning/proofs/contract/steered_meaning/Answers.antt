use Rattle.hp_meaning.proofs.contract.steered_meaning.Goals as goal
use Rattle.hp_meaning.proofs.ContractLemmas.Steered.{one_steered, steered_law, chosen_law}

pub returns-clause-one : goal.returns-clause-one
returns-clause-one c = one_steered

pub returns-clause-of_program : goal.returns-clause-of_program
returns-clause-of_program c = steered_law

pub returns-clause-converse : goal.returns-clause-converse
returns-clause-converse c = chosen_law
