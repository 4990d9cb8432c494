use Rattle.law_wellmade.proofs.ApartLemmas.ApartLaws.{scoped-law, lowered-law}
use Rattle.law_wellmade.proofs.apart.names_are_apart.Goals as goal

pub returns-clause-scoped : goal.returns-clause-scoped
returns-clause-scoped c = scoped-law

pub returns-clause-lowered : goal.returns-clause-lowered
returns-clause-lowered c = lowered-law
