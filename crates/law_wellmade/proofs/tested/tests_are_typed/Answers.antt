use Rattle.law_wellmade.proofs.TestedLemmas.TestedPrograms.{tested_law}
use Rattle.law_wellmade.proofs.tested.tests_are_typed.Goals as goal

pub returns : goal.returns
returns c = tested_law
