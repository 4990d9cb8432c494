use Rattle.law_choices.proofs.RunsLemmas.Runs.{lowered_law}
use Rattle.law_choices.proofs.runs.removing_automata_keeps_chosen_reactions.Goals as goal

pub returns : goal.returns
returns c = lowered_law c.ranks_of_points.ensures.program c.ranks_are_kept.ensures.program c.reactions_are_kept.ensures.outputs
