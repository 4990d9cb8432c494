use Rattle.law_choices.proofs.StreamsLemmas.Streams.{stream_law, text_law}
use Rattle.law_choices.proofs.StreamsLemmas.Names.{names_law, text_names_law}
use Rattle.law_choices.proofs.streams.meanings_give_the_chosen_reactions.Goals as goal

pub returns-clause-ready : goal.returns-clause-ready
returns-clause-ready c = stream_law (record {
  classes = c.removing_automata_keeps_classes.ensures;
  accepted = c.programs_with_classes_are_accepted.ensures;
  all_ranks = c.ranks_of_points.ensures.program;
  ranks = c.ranks_are_kept.ensures.program;
  firsts = c.programs_have_first_values.ensures.ready;
  meaning = record {
    targets = c.targets_differ.ensures;
    calls = c.calls_are_kept.ensures;
    one = c.chosen_nodes_have_one_reaction.ensures;
    outputs = c.nodes_have_one_reaction.ensures.outputs;
    kept = c.reactions_are_kept.ensures.outputs;
    some_answers = c.chosen_nodes_answer.ensures.some;
    equations = c.equations_answer_under_each_choice.ensures;
  };
})

pub returns-clause-text : goal.returns-clause-text
returns-clause-text c = text_law c.programs_have_one_meaning_under_each_choice.ensures.text (record {
  classes = c.removing_automata_keeps_classes.ensures;
  accepted = c.programs_with_classes_are_accepted.ensures;
  all_ranks = c.ranks_of_points.ensures.program;
  ranks = c.ranks_are_kept.ensures.program;
  firsts = c.programs_have_first_values.ensures.ready;
  meaning = record {
    targets = c.targets_differ.ensures;
    calls = c.calls_are_kept.ensures;
    one = c.chosen_nodes_have_one_reaction.ensures;
    outputs = c.nodes_have_one_reaction.ensures.outputs;
    kept = c.reactions_are_kept.ensures.outputs;
    some_answers = c.chosen_nodes_answer.ensures.some;
    equations = c.equations_answer_under_each_choice.ensures;
  };
})

pub returns-clause-names : goal.returns-clause-names
returns-clause-names c = names_law c.equations_keep_names_under_each_choice.ensures (record {
  classes = c.removing_automata_keeps_classes.ensures;
  accepted = c.programs_with_classes_are_accepted.ensures;
  all_ranks = c.ranks_of_points.ensures.program;
  ranks = c.ranks_are_kept.ensures.program;
  firsts = c.programs_have_first_values.ensures.ready;
  meaning = record {
    targets = c.targets_differ.ensures;
    calls = c.calls_are_kept.ensures;
    one = c.chosen_nodes_have_one_reaction.ensures;
    outputs = c.nodes_have_one_reaction.ensures.outputs;
    kept = c.reactions_are_kept.ensures.outputs;
    some_answers = c.chosen_nodes_answer.ensures.some;
    equations = c.equations_answer_under_each_choice.ensures;
  };
})

pub returns-clause-names_of_text : goal.returns-clause-names_of_text
returns-clause-names_of_text c = text_names_law c.programs_have_one_meaning_under_each_choice.ensures.text c.equations_keep_names_under_each_choice.ensures (record {
  classes = c.removing_automata_keeps_classes.ensures;
  accepted = c.programs_with_classes_are_accepted.ensures;
  all_ranks = c.ranks_of_points.ensures.program;
  ranks = c.ranks_are_kept.ensures.program;
  firsts = c.programs_have_first_values.ensures.ready;
  meaning = record {
    targets = c.targets_differ.ensures;
    calls = c.calls_are_kept.ensures;
    one = c.chosen_nodes_have_one_reaction.ensures;
    outputs = c.nodes_have_one_reaction.ensures.outputs;
    kept = c.reactions_are_kept.ensures.outputs;
    some_answers = c.chosen_nodes_answer.ensures.some;
    equations = c.equations_answer_under_each_choice.ensures;
  };
})
