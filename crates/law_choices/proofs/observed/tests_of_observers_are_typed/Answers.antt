use Rattle.law_choices.proofs.ObservedLemmas.Programs.{tested_observers_law}
use Rattle.law_choices.proofs.observed.tests_of_observers_are_typed.Goals as goal

pub returns : goal.returns
returns c = tested_observers_law
