use Rattle.law_choices.proofs.DependingLemmas.EventLaws.{early_events_law}
use Rattle.law_choices.proofs.depending.early_events_depend_on_no_choice.Goals as goal

pub returns : goal.returns
returns c = early_events_law c.found_early_places_depend_on_no_choice.ensures c.walks_find_places.ensures.places
