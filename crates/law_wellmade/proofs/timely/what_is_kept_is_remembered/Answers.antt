use Rattle.law_wellmade.proofs.TimelyLemmas.KeptLaws.{keeps}
use Rattle.law_wellmade.proofs.TimelyLemmas.BeginLaws.{begins}
use Rattle.law_wellmade.proofs.timely.what_is_kept_is_remembered.Goals as goal

pub returns-clause-keeps : goal.returns-clause-keeps
returns-clause-keeps c = keeps

pub returns-clause-begins : goal.returns-clause-begins
returns-clause-begins c = begins
