use Rattle.hp_circuit.proofs.PlacedLemmas.Codes.{made_of_codes}
use Rattle.hp_circuit.proofs.PlacedLemmas.Rows.{slot_numbers}
use Rattle.hp_circuit.proofs.PlacedLemmas.Told.{valid_codes}
use Rattle.hp_circuit.proofs.placed.valuations_are_codes.Goals as goal

pub returns-clause-made : goal.returns-clause-made
returns-clause-made c = made_of_codes

pub returns-clause-numbers : goal.returns-clause-numbers
returns-clause-numbers c = slot_numbers

pub returns-clause-valid : goal.returns-clause-valid
returns-clause-valid c = valid_codes
