use Rattle.law_choices.proofs.InTurnLemmas.Programs.{turn_law, within_law, choosing_program_law, telling_law}
use Rattle.law_choices.proofs.in_turn.nodes_that_choose_stand_in_turn.Goals as goal

pub returns-clause-turn : goal.returns-clause-turn
returns-clause-turn c = turn_law (record {
  nodes = record {
    watching = c.watched_nodes_choose.ensures.watched;
    choosing = c.watched_nodes_choose.ensures.chooses;
    ordered = c.equations_may_be_added.ensures.ordered;
    itself = c.extended_nodes_close.ensures.itself;
  };
  called = c.callees_may_differ_elsewhere.ensures;
  ready = c.made_nodes_may_be_added_to.ensures.made;
  bytes = c.made_nodes_may_be_added_to.ensures.bytes;
  targets = c.targets_differ.ensures;
  calls = c.calls_are_kept.ensures;
})

pub returns-clause-within : goal.returns-clause-within
returns-clause-within c = within_law (record {
  nodes = record {
    watching = c.watched_nodes_choose.ensures.watched;
    choosing = c.watched_nodes_choose.ensures.chooses;
    ordered = c.equations_may_be_added.ensures.ordered;
    itself = c.extended_nodes_close.ensures.itself;
  };
  called = c.callees_may_differ_elsewhere.ensures;
  ready = c.made_nodes_may_be_added_to.ensures.made;
  bytes = c.made_nodes_may_be_added_to.ensures.bytes;
  targets = c.targets_differ.ensures;
  calls = c.calls_are_kept.ensures;
})

pub returns-clause-means : goal.returns-clause-means
returns-clause-means c = choosing_program_law (record {
  nodes = record {
    watching = c.watched_nodes_choose.ensures.watched;
    choosing = c.watched_nodes_choose.ensures.chooses;
    ordered = c.equations_may_be_added.ensures.ordered;
    itself = c.extended_nodes_close.ensures.itself;
  };
  called = c.callees_may_differ_elsewhere.ensures;
  ready = c.made_nodes_may_be_added_to.ensures.made;
  bytes = c.made_nodes_may_be_added_to.ensures.bytes;
  targets = c.targets_differ.ensures;
  calls = c.calls_are_kept.ensures;
}) c.programs_have_one_meaning.ensures.nodes c.closed_programs_answer_as_the_program_allows.ensures.ready

pub returns-clause-tells : goal.returns-clause-tells
returns-clause-tells c = telling_law (record {
  nodes = record {
    watching = c.watched_nodes_choose.ensures.watched;
    choosing = c.watched_nodes_choose.ensures.chooses;
    ordered = c.equations_may_be_added.ensures.ordered;
    itself = c.extended_nodes_close.ensures.itself;
  };
  called = c.callees_may_differ_elsewhere.ensures;
  ready = c.made_nodes_may_be_added_to.ensures.made;
  bytes = c.made_nodes_may_be_added_to.ensures.bytes;
  targets = c.targets_differ.ensures;
  calls = c.calls_are_kept.ensures;
}) c.nodes_have_one_reaction.ensures.one
