use Rattle.law_choices.proofs.AddingLemmas.Bits.{bits_law, copy_law}
use Rattle.law_choices.proofs.AddingLemmas.Lifts.{lift_law}
use Rattle.law_choices.proofs.adding.values_may_be_lifted.Goals as goal

pub returns-clause-lift : goal.returns-clause-lift
returns-clause-lift c = lift_law

pub returns-clause-bits : goal.returns-clause-bits
returns-clause-bits c = bits_law

pub returns-clause-copy : goal.returns-clause-copy
returns-clause-copy c = copy_law
