use Rattle.law_choices.proofs.DependingLemmas.EventLaws.{event_places_law}
use Rattle.law_choices.proofs.depending.events_add_no_dependence.Goals as goal

pub returns : goal.returns
returns c = event_places_law c.found_places_add_no_dependence.ensures c.walks_find_places.ensures.places
