use Rattle.law_choices.proofs.DependingLemmas.FoundLaws.{found_place_law}
use Rattle.law_choices.proofs.depending.found_places_add_no_dependence.Goals as goal

pub returns : goal.returns
returns c = found_place_law c.causal_is_ranked.ensures.node c.ranks_are_kept.ensures.node c.clocks_are_kept.ensures.node
