use Rattle.law_choices.proofs.EmbeddedLemmas.Meaning.{observers_keep_law, observers_known_law}
use Rattle.law_choices.proofs.SeeingLemmas.Found.{filled_found_law}
use Rattle.law_choices.proofs.streams.observers_keep_places.Goals as goal

pub returns-clause-keep : goal.returns-clause-keep
returns-clause-keep c = observers_keep_law c.equations_keep_places_under_each_choice.ensures filled_found_law c.nodes_have_one_reaction.ensures.one c.ranks_of_points.ensures.program c.ranks_are_kept.ensures.program (record {
  targets = c.targets_differ.ensures;
  calls = c.calls_are_kept.ensures;
  one = c.chosen_nodes_have_one_reaction.ensures;
  outputs = c.nodes_have_one_reaction.ensures.outputs;
  kept = c.reactions_are_kept.ensures.outputs;
  some_answers = c.chosen_nodes_answer.ensures.some;
  equations = c.equations_answer_under_each_choice.ensures;
})

pub returns-clause-known : goal.returns-clause-known
returns-clause-known c = observers_known_law c.ranks_of_points.ensures.program c.ranks_are_kept.ensures.program
