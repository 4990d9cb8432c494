use Rattle.law_history.proofs.CountedLemmas.Made.{made_law}
use Rattle.law_history.proofs.CountedLemmas.Lowered.{lowered_law}
use Rattle.law_history.proofs.CountedLemmas.Limits.{machine_law}
use Rattle.law_history.proofs.counted.instances_are_calls.Goals as goal

pub returns-clause-made : goal.returns-clause-made
returns-clause-made c = made_law

pub returns-clause-lowered : goal.returns-clause-lowered
returns-clause-lowered c = lowered_law

pub returns-clause-machine : goal.returns-clause-machine
returns-clause-machine c = machine_law
