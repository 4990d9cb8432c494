use Rattle.law_controlled.proofs.WorkedLaws.{pump_law}
use Rattle.law_controlled.proofs.a_worked_pump.Goals as goal

pub returns : goal.returns
returns c = pump_law
