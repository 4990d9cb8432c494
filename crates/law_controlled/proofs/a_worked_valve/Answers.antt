use Rattle.law_controlled.proofs.WorkedLaws.{valve_law}
use Rattle.law_controlled.proofs.a_worked_valve.Goals as goal

pub returns : goal.returns
returns c = valve_law
