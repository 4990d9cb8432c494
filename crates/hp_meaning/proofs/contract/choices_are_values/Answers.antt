use Rattle.hp_meaning.proofs.contract.choices_are_values.Goals as goal
use Rattle.hp_meaning.proofs.ContractLemmas.ChoiceTypes.{choice_types, typed_controls}

pub returns-clause-choice : goal.returns-clause-choice
returns-clause-choice c = choice_types

pub returns-clause-run : goal.returns-clause-run
returns-clause-run c = typed_controls
