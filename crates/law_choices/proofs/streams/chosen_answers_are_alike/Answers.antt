use Rattle.law_choices.proofs.StreamsLemmas.Alike.{alike_law}
use Rattle.law_choices.proofs.streams.chosen_answers_are_alike.Goals as goal

pub returns : goal.returns
returns c = alike_law c.chosen_nodes_have_one_reaction.ensures c.nodes_have_one_reaction.ensures.outputs
