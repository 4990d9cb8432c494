use Rattle.law_equations.proofs.followed.machines_follow.Goals as goal
use Rattle.law_equations.proofs.FollowedLemmas.StepLaws.{step_law}
use Rattle.law_equations.proofs.FollowedLemmas.RunLaws.{memory_law, outputs_law, run_law, answered_law}

pub returns-clause-step : goal.returns-clause-step
returns-clause-step c = step_law

pub returns-clause-memory : goal.returns-clause-memory
returns-clause-memory c = memory_law

pub returns-clause-outputs : goal.returns-clause-outputs
returns-clause-outputs c = outputs_law

pub returns-clause-run : goal.returns-clause-run
returns-clause-run c = run_law

pub returns-clause-answered : goal.returns-clause-answered
returns-clause-answered c = answered_law
