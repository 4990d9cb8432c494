use Rattle.law_controlled.proofs.WorkedLaws.{tap_law}
use Rattle.law_controlled.proofs.a_worked_tap.Goals as goal

pub returns : goal.returns
returns c = tap_law
