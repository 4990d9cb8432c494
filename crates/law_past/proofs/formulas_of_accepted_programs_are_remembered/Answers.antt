use Rattle.law_past.proofs.OneBit.{one_bit_law}
use Rattle.law_past.proofs.Remembered.{boolean_law, formula_law}
use Rattle.law_past.proofs.formulas_of_accepted_programs_are_remembered.Goals as goal

pub returns-clause-boolean : goal.returns-clause-boolean
returns-clause-boolean c = boolean_law

pub returns-clause-value : goal.returns-clause-value
returns-clause-value c = formula_law

pub returns-clause-bit : goal.returns-clause-bit
returns-clause-bit c = one_bit_law
