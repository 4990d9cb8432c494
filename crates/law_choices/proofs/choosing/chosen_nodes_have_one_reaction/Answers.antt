use Rattle.law_choices.proofs.ChoosingLemmas.Meanings.{one_reaction}
use Rattle.law_choices.proofs.choosing.chosen_nodes_have_one_reaction.Goals as goal

pub returns : goal.returns
returns c = one_reaction c.nodes_have_one_reaction.ensures.one c.nodes_have_one_reaction.ensures.outputs
