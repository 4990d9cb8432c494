use Rattle.law_choices.proofs.FilledLemmas.Ready.{choices_kept, ready_law}
use Rattle.law_choices.proofs.filled.ready_programs_have_one_filled_reaction.Goals as goal

pub returns-clause-choices : goal.returns-clause-choices
returns-clause-choices c = choices_kept

pub returns-clause-ready : goal.returns-clause-ready
returns-clause-ready c =
    ready_law c.removing_automata_keeps_classes.ensures c.programs_with_classes_are_accepted.ensures c.ranks_of_points.ensures.program c.ranks_are_kept.ensures.program c.programs_have_first_values.ensures.ready c.removing_automata_keeps_chosen_reactions.ensures
