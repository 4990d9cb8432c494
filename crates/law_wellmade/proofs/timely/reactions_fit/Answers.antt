use Rattle.law_wellmade.proofs.TimelyLemmas.FittingLaws.{fitting}
use Rattle.law_wellmade.proofs.TimelyLemmas.MadeFittingLaws.{made_fitting}
use Rattle.law_wellmade.proofs.timely.reactions_fit.Goals as goal

pub returns-clause-flat : goal.returns-clause-flat
returns-clause-flat c = fitting

pub returns-clause-made : goal.returns-clause-made
returns-clause-made c = made_fitting
