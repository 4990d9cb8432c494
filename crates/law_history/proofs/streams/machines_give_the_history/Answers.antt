use Rattle.law_history.proofs.StreamsLemmas.Histories.{history}
use Rattle.law_history.proofs.streams.machines_give_the_history.Goals as goal

pub returns : goal.returns
returns c = history (record {
  ready = record {
    classes = c.removing_automata_keeps_classes.ensures;
    accepted = c.programs_with_classes_are_accepted.ensures;
    all_ranks = c.ranks_of_points.ensures.program;
    ranks = c.ranks_are_kept.ensures.program;
    firsts = c.programs_have_first_values.ensures.ready;
    sound = c.nodes_stay_sound.ensures.program;
    whole = c.ready_programs_become_whole.ensures.whole;
    scoped = c.names_are_apart.ensures.scoped;
    lowered = c.names_are_apart.ensures.lowered;
    begun = c.registers_begin.ensures;
    differ = c.constructors_differ.ensures;
    tested = c.tests_are_typed.ensures;
  };
  nodes = record {
    known = c.known_names_agree.ensures;
    suited = c.nodes_suit.ensures.program;
    calls = c.calls_are_kept.ensures;
    fitting = c.reactions_fit.ensures.made;
    answered = c.nodes_answer_as_their_equations.ensures.answered;
    compiled = c.nodes_are_compiled.ensures.programs;
  };
  reaction = c.one_reaction.ensures.as_it_is;
  reaction_read = c.one_reaction.ensures.as_read;
  some_run = c.one_run.ensures.some;
  values = c.values_fit.ensures.real;
  here = c.outputs_have_values.ensures.fitting;
  kept = c.removing_automata_keeps_runs.ensures.reactions;
  agree = c.filled_reactions_agree.ensures.given;
  some_answers = c.nodes_answer.ensures.some;
  all_answers = c.nodes_answer_as_their_equations.ensures.all;
})
