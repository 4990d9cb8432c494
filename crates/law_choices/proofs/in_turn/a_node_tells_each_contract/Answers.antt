use Rattle.law_choices.proofs.InTurnLemmas.TellsFor.{tells_for_law}
use Rattle.law_choices.proofs.in_turn.a_node_tells_each_contract.Goals as goal

pub returns : goal.returns
returns c = tells_for_law (record {
  nodes = record {
    watching = c.watched_nodes_choose.ensures.watched;
    choosing = c.watched_nodes_choose.ensures.chooses;
    ordered = c.equations_may_be_added.ensures.ordered;
    itself = c.extended_nodes_close.ensures.itself;
  };
  called = c.callees_may_differ_elsewhere.ensures;
  ready = c.made_nodes_may_be_added_to.ensures.made;
  bytes = c.made_nodes_may_be_added_to.ensures.bytes;
  targets = c.targets_differ.ensures;
  calls = c.calls_are_kept.ensures;
}) c.nodes_have_one_reaction.ensures.one
