use Rattle.law_wellmade.proofs.RegularLemmas.RegularLaws.{constants, clocks, lowered}
use Rattle.law_wellmade.proofs.regular.integers_are_short.Goals as goal

pub returns-clause-constants : goal.returns-clause-constants
returns-clause-constants c = constants

pub returns-clause-clocks : goal.returns-clause-clocks
returns-clause-clocks c = clocks

pub returns-clause-lowered : goal.returns-clause-lowered
returns-clause-lowered c = lowered
