use Rattle.law_choices.proofs.AnsweredLemmas.ControlledLoops.{controlled_loop}
use Rattle.law_choices.proofs.AnsweredLemmas.Extended.{extended_loop, own_loop, then_law}
use Rattle.law_choices.proofs.answered.extended_nodes_close.Goals as goal

pub returns-clause-extended : goal.returns-clause-extended
returns-clause-extended c = extended_loop c.added_equations_give_inputs.ensures

pub returns-clause-itself : goal.returns-clause-itself
returns-clause-itself c = own_loop

pub returns-clause-in_two_steps : goal.returns-clause-in_two_steps
returns-clause-in_two_steps c = then_law

pub returns-clause-controlled : goal.returns-clause-controlled
returns-clause-controlled c = controlled_loop
