use Rattle.law_choices.proofs.CodedLemmas.Kinds.{kind_bits_law, code_bits_law, input_bits_law}
use Rattle.law_choices.proofs.coded.bits_are_those_of_kinds.Goals as goal

pub returns-clause-kinds : goal.returns-clause-kinds
returns-clause-kinds c = kind_bits_law

pub returns-clause-codes : goal.returns-clause-codes
returns-clause-codes c = code_bits_law

pub returns-clause-inputs : goal.returns-clause-inputs
returns-clause-inputs c = input_bits_law
