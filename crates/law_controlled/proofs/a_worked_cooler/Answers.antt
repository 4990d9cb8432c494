use Rattle.law_controlled.proofs.WorkedLaws.{cooler_law}
use Rattle.law_controlled.proofs.a_worked_cooler.Goals as goal

pub returns : goal.returns
returns c = cooler_law
