use Rattle.law_choices.proofs.UndisturbedLemmas.Contracts.{contracts_law}
use Rattle.law_choices.proofs.undisturbed.ready_programs_keep_contracts.Goals as goal

pub returns : goal.returns
returns c = contracts_law c.events_add_no_dependence.ensures c.walks_find_places.ensures.places c.ranks_of_points.ensures.node
