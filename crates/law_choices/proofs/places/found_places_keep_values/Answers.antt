use Rattle.law_choices.proofs.places.found_places_keep_values.Goals as goal
use Rattle.law_choices.proofs.PlacesLemmas.Values.{values-are}

pub returns : goal.returns
returns c = values-are
