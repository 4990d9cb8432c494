use Rattle.law_choices.proofs.OneForOneLemmas.Given.{given_law}
use Rattle.law_choices.proofs.one_for_one.reactions_are_kept_one_for_one.Goals as goal

pub returns : goal.returns
returns c =
    given_law c.one_reaction.ensures.as_it_is c.ranks_of_points.ensures.program c.ranks_are_kept.ensures.program c.conditions_have_truth_values.ensures.real c.reactions_are_kept.ensures.only c.reactions_are_kept.ensures.outputs
