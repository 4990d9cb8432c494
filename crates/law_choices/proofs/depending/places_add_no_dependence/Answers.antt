use Rattle.law_choices.proofs.DependingLemmas.PlaceLaws.{place_law}
use Rattle.law_choices.proofs.depending.places_add_no_dependence.Goals as goal

pub returns : goal.returns
returns c = place_law c.causal_is_ranked.ensures.node c.ranks_are_kept.ensures.node c.clocks_are_kept.ensures.node
