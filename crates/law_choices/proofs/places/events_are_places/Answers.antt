use Rattle.law_choices.proofs.places.events_are_places.Goals as goal
use Rattle.law_choices.proofs.PlacesLemmas.Events.{events-are}

pub returns : goal.returns
returns c = events-are
