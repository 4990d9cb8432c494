use Rattle.law_choices.proofs.DependingLemmas.FoundLaws.{found_early_law}
use Rattle.law_choices.proofs.depending.found_early_places_depend_on_no_choice.Goals as goal

pub returns : goal.returns
returns c = found_early_law c.found_places_add_no_dependence.ensures
