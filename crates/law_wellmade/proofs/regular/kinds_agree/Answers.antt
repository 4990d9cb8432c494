use Rattle.law_wellmade.proofs.RegularLemmas.RegularLaws.{kinds, variables_typed}
use Rattle.law_wellmade.proofs.RegularLemmas.FoundTypes as types
use Rattle.law_wellmade.proofs.regular.kinds_agree.Goals as goal

pub returns-clause-kinds : goal.returns-clause-kinds
returns-clause-kinds c = kinds

pub returns-clause-variables : goal.returns-clause-variables
returns-clause-variables c = variables_typed

pub returns-clause-found : goal.returns-clause-found
returns-clause-found c = types.found
