use Rattle.law_controlled.proofs.SaidLaws.{greatest_said_law}
use Rattle.law_controlled.proofs.machines_of_texts_choose_the_greatest.Goals as goal

pub returns : goal.returns
returns c =
    let order = c.programs_of_texts_are_in_order.ensures in
    greatest_said_law
    (record {
      greatest = c.nodes_that_know_all_choose_the_greatest.ensures.greatest;
      of_program = c.chosen_values_make_one_reaction.ensures.of_program;
      allowed = c.choice_is_permitted.ensures.allowed;
      guarantee = c.duty_is_kept.ensures;
      next = c.reactions_are_instants_of_the_game.ensures;
      of_types = c.choices_are_values.ensures.choice;
      contracts = c.contracts_call_nothing.ensures.ready;
      settled = c.ready_nodes_are_settled.ensures.settled;
      stands = order.stands;
      instances = c.instances_react_in_kind.ensures;
      tells = c.a_node_tells_each_contract.ensures;
      calls_nothing = c.callees_compare_nothing.ensures.calls_nothing;
      own = c.places_are_seen.ensures;
      seen = c.nodes_that_see_values_choose_the_greatest.ensures.greatest;
      seen_told = c.contracts_that_are_seen_are_told.ensures;
    })
    c.machines_say_what_is_allowed.ensures c.programs_of_texts_may_choose.ensures.sign order.order c.contracts_of_texts_can_be_observed.ensures
