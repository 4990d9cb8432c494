use Rattle.law_controlled.proofs.BuiltLaws.{chosen_built_law}
use Rattle.law_controlled.proofs.machines_that_choose_are_built.Goals as goal

pub returns : goal.returns
returns c = chosen_built_law (record {
  all_ranks = c.ranks_of_points.ensures.program;
  ranks = c.ranks_are_kept.ensures.program;
  no_circle = c.equations_read_in_no_circle.ensures.program;
  names = c.names_are_spelled.ensures.text;
  regular = c.equations_are_regular.ensures;
  count = c.walks_find_places.ensures.count;
  order = c.programs_of_texts_are_in_order.ensures.order;
  safe = c.drawn_games_are_kept.ensures.safe;
  mirrors = c.drawn_nodes_are_mirrored.ensures.mirrors;
  flags = c.drawn_machines_mirror.ensures;
  contracts = c.contracts_call_nothing.ensures.ready;
  observable = c.contracts_of_texts_can_be_observed.ensures;
  sign = c.programs_of_texts_may_choose.ensures.sign;
  can = c.observers_can_be_compiled.ensures;
  tested = c.tests_of_observers_are_typed.ensures;
  made = c.made_nodes_may_be_added_to.ensures.compiled;
  observer = c.well_built_observers_suit.ensures;
  nodes = c.nodes_are_made.ensures;
  formed = record {
    turn = record {
      nodes = record {
        watching = c.watched_nodes_choose.ensures.watched;
        choosing = c.watched_nodes_choose.ensures.chooses;
        ordered = c.equations_may_be_added.ensures.ordered;
        itself = c.extended_nodes_close.ensures.itself;
      };
      called = c.callees_may_differ_elsewhere.ensures;
      ready = c.made_nodes_may_be_added_to.ensures.made;
      bytes = c.made_nodes_may_be_added_to.ensures.bytes;
      targets = c.targets_differ.ensures;
      calls = c.calls_are_kept.ensures;
    };
    observers = c.observers_suit.ensures;
    names = c.names_of_what_is_made_differ.ensures.made;
    kept = c.shape_is_kept.ensures;
    file = c.machines_have_form.ensures.program;
  };
  lettered = c.machines_are_spelled.ensures.names;
  clocks = c.clocks_of_texts_are_short.ensures;
  circle = c.circles_pass_early_bits.ensures;
  waits = record {
    places = c.ready_programs_keep_places.ensures;
    own = c.own_contracts_wait_for_no_choice.ensures;
    variables = c.variables_of_outputs_and_inputs.ensures;
    labels = c.labels_name_targets.ensures;
    walk = c.walks_find_places.ensures.places;
    found = c.walks_find_places.ensures.numbers;
    made = c.comparisons_and_calls_have_places.ensures;
    flags = c.drawn_machines_mirror.ensures;
    ranks = c.ranks_are_kept.ensures.program;
  };
})
