use Rattle.law_choices.proofs.UndisturbedLemmas.Ready.{ready_law}
use Rattle.law_choices.proofs.undisturbed.ready_programs_keep_dependence.Goals as goal

pub returns : goal.returns
returns c =
    ready_law c.automata_add_no_dependence.ensures c.passes_add_no_dependence.ensures c.independent_names_stay_so.ensures.inputs c.independent_names_stay_so.ensures.controls c.ranks_of_points.ensures.node c.ranked_is_causal.ensures c.ready_programs_are_accepted.ensures.accepted
