use Rattle.law_controlled.proofs.WorkedLaws.{heater_law}
use Rattle.law_controlled.proofs.a_worked_heater.Goals as goal

pub returns : goal.returns
returns c = heater_law
