use Rattle.law_wellmade.proofs.TestedLemmas.TestedPrograms.{contracts_apart_law}
use Rattle.law_wellmade.proofs.tested.contracts_are_apart.Goals as goal

pub returns : goal.returns
returns c = contracts_apart_law
