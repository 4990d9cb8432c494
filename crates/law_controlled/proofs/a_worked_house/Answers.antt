use Rattle.law_controlled.proofs.WorkedLaws.{house_law}
use Rattle.law_controlled.proofs.a_worked_house.Goals as goal

pub returns : goal.returns
returns c = house_law
