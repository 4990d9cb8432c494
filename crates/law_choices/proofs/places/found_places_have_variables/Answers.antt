use Rattle.law_choices.proofs.places.found_places_have_variables.Goals as goal
use Rattle.law_choices.proofs.PlacesLemmas.Standing.{standing-law}

pub returns : goal.returns
returns c = standing-law
