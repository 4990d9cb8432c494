use Rattle.law_choices.proofs.AnsweredLemmas.Programs.{allowed_law, closed_program_law, closed_text_law}
use Rattle.law_choices.proofs.answered.closed_programs_answer_as_the_program_allows.Goals as goal

pub returns-clause-allowed : goal.returns-clause-allowed
returns-clause-allowed c = allowed_law (record {
  targets = c.targets_differ.ensures;
  calls = c.calls_are_kept.ensures;
  meaning = c.programs_have_one_meaning_under_each_choice.ensures.ready;
  alike = c.chosen_answers_are_alike.ensures;
  streams = c.meanings_give_the_chosen_reactions.ensures.ready;
})

pub returns-clause-ready : goal.returns-clause-ready
returns-clause-ready c = closed_program_law (record {
  targets = c.targets_differ.ensures;
  calls = c.calls_are_kept.ensures;
  meaning = c.programs_have_one_meaning_under_each_choice.ensures.ready;
  alike = c.chosen_answers_are_alike.ensures;
  streams = c.meanings_give_the_chosen_reactions.ensures.ready;
}) c.closed_loops_answer_under_a_choice.ensures.nodes

pub returns-clause-text : goal.returns-clause-text
returns-clause-text c = closed_text_law (record {
  targets = c.targets_differ.ensures;
  calls = c.calls_are_kept.ensures;
  meaning = c.programs_have_one_meaning_under_each_choice.ensures.ready;
  alike = c.chosen_answers_are_alike.ensures;
  streams = c.meanings_give_the_chosen_reactions.ensures.ready;
}) c.closed_loops_answer_under_a_choice.ensures.nodes
