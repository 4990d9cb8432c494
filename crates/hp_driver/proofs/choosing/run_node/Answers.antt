use Rattle.hp_driver.specs.Status.{code_of}
use Rattle.hp_driver.proofs.ChoosingLaws.{chosen_there, node_ran}
use Rattle.hp_driver.proofs.choosing.run_node.Goals as goal

pub run_chosen-requires-clause-there : goal.run_chosen-requires-clause-there
run_chosen-requires-clause-there g c = chosen_there c.args.machines.now c.args.name.now c.args.node.now c.requires.own

pub returns-clause-outcome : goal.returns-clause-outcome
returns-clause-outcome g c =
    let ran = c.run_chosen.ensures.outcome in
    (ran.0, ran.1, ran.2, ran.3, ran.4, node_ran c.args.machines.now c.args.node.now c.args.name.now ran.0 ran.1 (code_of c.run_chosen.result) c.requires.own ran.5)
