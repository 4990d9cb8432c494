use Rattle.law_equations.proofs.followed.programs_follow.Goals as goal
use Rattle.law_equations.proofs.FollowedLemmas.ProgramLaws.{program_law, fused_law, program_run_law}

pub returns-clause-answers : goal.returns-clause-answers
returns-clause-answers c = program_law

pub returns-clause-joined : goal.returns-clause-joined
returns-clause-joined c = fused_law

pub returns-clause-runs : goal.returns-clause-runs
returns-clause-runs c = program_run_law
