use Rattle.law_history.proofs.StreamsLemmas.Built.{way_is_built}
use Rattle.law_history.proofs.streams.machines_of_texts_are_built.Goals as goal

pub returns : goal.returns
returns c = way_is_built (record {
  ready = record {
    classes = c.removing_automata_keeps_classes.ensures;
    accepted = c.programs_with_classes_are_accepted.ensures;
    all_ranks = c.ranks_of_points.ensures.program;
    ranks = c.ranks_are_kept.ensures.program;
    firsts = c.programs_have_first_values.ensures.ready;
    sound = c.nodes_stay_sound.ensures.program;
    whole = c.ready_programs_become_whole.ensures.whole;
    scoped = c.names_are_apart.ensures.scoped;
    lowered = c.names_are_apart.ensures.lowered;
    begun = c.registers_begin.ensures;
    differ = c.constructors_differ.ensures;
    tested = c.tests_are_typed.ensures;
  };
  ready_text = c.arranged_texts_are_ready.ensures;
  removable_text = c.automata_of_texts_may_be_removed.ensures;
  types_text = c.programs_have_first_values.ensures.text;
  few_types = c.texts_have_few_types.ensures;
  known = c.known_names_agree.ensures;
  suited = c.nodes_suit.ensures.node;
  no_circle = c.equations_read_in_no_circle.ensures.program;
  short_text = c.integers_of_texts_are_short.ensures.replaced_text;
  short_clocked = c.integers_are_short.ensures.clocks;
  regular = c.equations_are_regular.ensures;
  kinds = c.kinds_agree.ensures.kinds;
  variables = c.kinds_agree.ensures.variables;
  names = c.machines_are_spelled.ensures.names;
  types = c.machines_are_spelled.ensures.types;
  clocks = c.clocks_of_texts_are_short.ensures;
  apart = c.equations_define_apart.ensures.program;
  kept = c.shape_is_kept.ensures;
  form = c.machines_have_form.ensures.program;
})
