use Rattle.law_controlled.proofs.WorkedLaws.{gate_law}
use Rattle.law_controlled.proofs.a_worked_gate.Goals as goal

pub returns : goal.returns
returns c = gate_law
