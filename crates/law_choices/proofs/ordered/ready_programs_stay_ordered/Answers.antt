use Rattle.law_choices.proofs.OrderedLemmas.Programs.{ordered_law}
use Rattle.law_choices.proofs.ordered.ready_programs_stay_ordered.Goals as goal

pub returns : goal.returns
returns c =
    ordered_law c.points_have_ranks.ensures c.names_stay_declared.ensures c.clocks_stay_written.ensures c.ranks_of_points.ensures.program c.ranks_are_kept.ensures.program c.removing_automata_keeps_classes.ensures c.programs_with_classes_are_accepted.ensures
