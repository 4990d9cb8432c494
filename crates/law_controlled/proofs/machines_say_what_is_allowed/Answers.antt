use Rattle.law_controlled.proofs.AllowedLaws.{allowed_law}
use Rattle.law_controlled.proofs.machines_say_what_is_allowed.Goals as goal

pub returns : goal.returns
returns c =
    let turn = c.nodes_that_choose_stand_in_turn.ensures in
    allowed_law c.observers_can_be_compiled.ensures c.tests_of_observers_are_typed.ensures c.contracts_call_nothing.ensures.ready c.observers_suit.ensures c.nodes_are_made.ensures c.nodes_ask_machines_that_mirror.ensures c.names_of_what_is_made_differ.ensures.made c.machines_answer_as_whole_nodes.ensures.turn turn.turn turn.within turn.means c.a_node_stands_for_each.ensures
