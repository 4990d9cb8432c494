use Rattle.law_controlled.proofs.WaitLaws.{some_waits_law}
use Rattle.law_controlled.proofs.a_worked_wait.Goals as goal

pub returns : goal.returns
returns c = some_waits_law
