use Rattle.law_choices.proofs.DependingLemmas.PlaceLaws.{early_place_law}
use Rattle.law_choices.proofs.depending.early_places_depend_on_no_choice.Goals as goal

pub returns : goal.returns
returns c = early_place_law c.places_add_no_dependence.ensures
