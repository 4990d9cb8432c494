use Rattle.law_wellmade.proofs.TestedLemmas.FittedLaws.{differ_law}
use Rattle.law_wellmade.proofs.tested.constructors_differ.Goals as goal

pub returns : goal.returns
returns c = differ_law
