use Rattle.hp_driver.proofs.JoinedLaws.{joined, joined_run}
use Rattle.hp_driver.proofs.ResumedLaws.{continued, left_is_taken, resumed, taken}
use Rattle.hp_driver.proofs.laws.stopped_runs_are_joined.Goals as goal

pub returns-clause-lines : goal.returns-clause-lines
returns-clause-lines c = joined

pub returns-clause-runs : goal.returns-clause-runs
returns-clause-runs c = joined_run

pub returns-clause-resumed : goal.returns-clause-resumed
returns-clause-resumed c =
    resumed c.one_shortest_assignment.ensures c.programs_that_choose_have_one_list_of_machines.ensures.texts

pub returns-clause-continued : goal.returns-clause-continued
returns-clause-continued c =
    continued c.one_shortest_assignment.ensures c.programs_that_choose_have_one_list_of_machines.ensures.texts

pub returns-clause-taken : goal.returns-clause-taken
returns-clause-taken c = taken c.one_shortest_assignment.ensures c.programs_that_choose_have_one_list_of_machines.ensures.texts

pub returns-clause-left : goal.returns-clause-left
returns-clause-left c = left_is_taken c.one_shortest_assignment.ensures c.programs_that_choose_have_one_list_of_machines.ensures.texts
