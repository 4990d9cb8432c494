use Rattle.law_decided.proofs.Promised.{run_kept, machine_kept}
use Rattle.law_decided.proofs.machines_keep_contracts.Goals as goal

pub returns-clause-run : goal.returns-clause-run
returns-clause-run c = run_kept c.programs_of_texts_are_in_order.ensures.order c.runs_keep_contracts.ensures.node_runs

pub returns-clause-machine : goal.returns-clause-machine
returns-clause-machine c = machine_kept c.programs_of_texts_are_in_order.ensures.order c.runs_keep_contracts.ensures.node_runs c.machines_run_the_nodes_of_texts.ensures
