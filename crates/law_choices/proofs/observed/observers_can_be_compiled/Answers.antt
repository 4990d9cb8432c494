use Rattle.law_choices.proofs.ObservedLemmas.Programs.{can_be_observed_law}
use Rattle.law_choices.proofs.observed.observers_can_be_compiled.Goals as goal

pub returns : goal.returns
returns c = can_be_observed_law
