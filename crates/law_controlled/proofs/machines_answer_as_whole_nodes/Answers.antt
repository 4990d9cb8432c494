use Rattle.law_controlled.specs.Machines.{MadeMachinesLaw}
use Rattle.law_controlled.proofs.MachineLaws.{made_machines, turn_machines}
use Rattle.law_controlled.proofs.machines_answer_as_whole_nodes.Goals as goal

pub returns-clause-whole : goal.returns-clause-whole
returns-clause-whole c =
    let form = c.parts_keep_form.ensures in
    made_machines (record { made = c.made_parts_are_parts.ensures; within = form.within; no_inputs = form.no_inputs; ranked = form.ranked; names = form.names; answered = c.parts_keep_reactions.ensures.answers })
    c.regular_equations_have_form.ensures c.nodes_are_compiled.ensures.programs

pub returns-clause-turn : goal.returns-clause-turn
returns-clause-turn c =
    let form = c.parts_keep_form.ensures in
    let whole : MadeMachinesLaw =
    made_machines (record { made = c.made_parts_are_parts.ensures; within = form.within; no_inputs = form.no_inputs; ranked = form.ranked; names = form.names; answered = c.parts_keep_reactions.ensures.answers })
    c.regular_equations_have_form.ensures c.nodes_are_compiled.ensures.programs in
    turn_machines whole
