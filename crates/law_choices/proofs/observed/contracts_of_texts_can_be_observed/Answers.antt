use Rattle.law_choices.proofs.ObservedLemmas.Named.{observable_texts_law}
use Rattle.law_choices.proofs.observed.contracts_of_texts_can_be_observed.Goals as goal

pub returns : goal.returns
returns c = observable_texts_law
