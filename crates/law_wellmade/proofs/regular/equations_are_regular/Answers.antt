use Rattle.law_wellmade.proofs.RegularLemmas.RegularLaws.{regular}
use Rattle.law_wellmade.proofs.regular.equations_are_regular.Goals as goal

pub returns : goal.returns
returns c = regular
