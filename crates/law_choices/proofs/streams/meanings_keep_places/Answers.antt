use Rattle.law_choices.proofs.SeeingLemmas.Found.{filled_found_law}
use Rattle.law_choices.proofs.StreamsLemmas.Places.{places_law}
use Rattle.law_choices.proofs.streams.meanings_keep_places.Goals as goal

pub returns : goal.returns
returns c = places_law c.equations_keep_places_under_each_choice.ensures filled_found_law (record {
  classes = c.removing_automata_keeps_classes.ensures;
  accepted = c.programs_with_classes_are_accepted.ensures;
  all_ranks = c.ranks_of_points.ensures.program;
  ranks = c.ranks_are_kept.ensures.program;
  firsts = c.programs_have_first_values.ensures.ready;
  meaning = record {
    targets = c.targets_differ.ensures;
    calls = c.calls_are_kept.ensures;
    one = c.chosen_nodes_have_one_reaction.ensures;
    outputs = c.nodes_have_one_reaction.ensures.outputs;
    kept = c.reactions_are_kept.ensures.outputs;
    some_answers = c.chosen_nodes_answer.ensures.some;
    equations = c.equations_answer_under_each_choice.ensures;
  };
})
