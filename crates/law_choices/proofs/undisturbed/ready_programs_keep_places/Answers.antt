use Rattle.law_choices.proofs.UndisturbedLemmas.Ready.{places_law}
use Rattle.law_choices.proofs.undisturbed.ready_programs_keep_places.Goals as goal

pub returns : goal.returns
returns c = places_law c.places_add_no_dependence.ensures c.early_places_depend_on_no_choice.ensures c.early_events_depend_on_no_choice.ensures c.ranks_of_points.ensures.node c.ready_programs_are_accepted.ensures.accepted
