use Rattle.law_controlled.specs.One.{OneListLaw}
use Rattle.law_controlled.proofs.OneListLaws.{one_list, one_text_list}
use Rattle.law_controlled.proofs.programs_that_choose_have_one_list_of_machines.Goals as goal

pub returns-clause-ready : goal.returns-clause-ready
returns-clause-ready c =
    let turn = c.nodes_that_choose_stand_in_turn.ensures in
    let form = c.parts_keep_form.ensures in
    one_list
    (record {
      can = c.observers_can_be_compiled.ensures;
      tested = c.tests_of_observers_are_typed.ensures;
      contracts = c.contracts_call_nothing.ensures.ready;
      observers = c.observers_suit.ensures;
      made = c.nodes_are_made.ensures;
      names = c.names_of_what_is_made_differ.ensures.made;
      in_turn = turn.turn;
      within = turn.within;
      part = record { made = c.made_parts_are_parts.ensures; within = form.within; no_inputs = form.no_inputs; ranked = form.ranked; names = form.names; answered = c.parts_keep_reactions.ensures.answers };
      regular = c.regular_equations_have_form.ensures;
    })
    c.nodes_have_one_abstraction.ensures (record { meaning = c.programs_have_one_meaning.ensures.nodes; turn = c.machines_answer_as_whole_nodes.ensures.turn; own = c.names_are_own.ensures })

pub returns-clause-texts : goal.returns-clause-texts
returns-clause-texts c =
    let turn = c.nodes_that_choose_stand_in_turn.ensures in
    let form = c.parts_keep_form.ensures in
    let ready : OneListLaw =
    one_list
    (record {
      can = c.observers_can_be_compiled.ensures;
      tested = c.tests_of_observers_are_typed.ensures;
      contracts = c.contracts_call_nothing.ensures.ready;
      observers = c.observers_suit.ensures;
      made = c.nodes_are_made.ensures;
      names = c.names_of_what_is_made_differ.ensures.made;
      in_turn = turn.turn;
      within = turn.within;
      part = record { made = c.made_parts_are_parts.ensures; within = form.within; no_inputs = form.no_inputs; ranked = form.ranked; names = form.names; answered = c.parts_keep_reactions.ensures.answers };
      regular = c.regular_equations_have_form.ensures;
    })
    c.nodes_have_one_abstraction.ensures (record { meaning = c.programs_have_one_meaning.ensures.nodes; turn = c.machines_answer_as_whole_nodes.ensures.turn; own = c.names_are_own.ensures }) in
    one_text_list ready c.programs_of_texts_may_choose.ensures.sign c.programs_of_texts_are_in_order.ensures.order c.contracts_of_texts_can_be_observed.ensures
