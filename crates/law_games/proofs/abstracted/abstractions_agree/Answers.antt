use Rattle.law_games.proofs.abstracted.abstractions_agree.Goals as goal
use Rattle.law_games.proofs.AbstractedLemmas.Histories.{all_fit, abstract_agree}

pub returns-clause-fits : goal.returns-clause-fits
returns-clause-fits c = all_fit

pub returns-clause-agree : goal.returns-clause-agree
returns-clause-agree c = abstract_agree
