use Rattle.law_controlled.proofs.SaidLaws.{said_law}
use Rattle.law_controlled.proofs.machines_of_texts_say_what_is_allowed.Goals as goal

pub returns : goal.returns
returns c =
    said_law c.nodes_that_choose_answer_as_the_program_allows.ensures c.machines_say_what_is_allowed.ensures c.programs_of_texts_may_choose.ensures.sign c.programs_of_texts_are_in_order.ensures.order c.contracts_of_texts_can_be_observed.ensures
