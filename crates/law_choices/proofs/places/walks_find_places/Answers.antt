use Rattle.law_choices.proofs.places.walks_find_places.Goals as goal
use Rattle.law_choices.proofs.PlacesLemmas.Walks.{walk-finds}
use Rattle.law_choices.proofs.PlacesLemmas.Numbers.{found-law, count-law}

pub returns-clause-places : goal.returns-clause-places
returns-clause-places c = walk-finds

pub returns-clause-numbers : goal.returns-clause-numbers
returns-clause-numbers c = found-law

pub returns-clause-count : goal.returns-clause-count
returns-clause-count c = count-law
