use Rattle.law_choices.proofs.places.free_places_are_found.Goals as goal
use Rattle.law_choices.proofs.PlacesLemmas.Slots.{slots-found}

pub returns : goal.returns
returns c = slots-found
