use Rattle.law_history.proofs.CountedLemmas.Texts.{few_law, never_law}
use Rattle.law_history.proofs.counted.machines_of_texts_are_few.Goals as goal

pub returns-clause-few : goal.returns-clause-few
returns-clause-few c = few_law

pub returns-clause-never : goal.returns-clause-never
returns-clause-never c = never_law
