use Rattle.law_choices.proofs.SeeingLemmas.Found.{filled_found_law}
use Rattle.law_choices.proofs.seeing.found_places_keep_their_values.Goals as goal

pub returns : goal.returns
returns c = filled_found_law
