use Rattle.law_wellmade.proofs.BegunLemmas.BegunLaws.{begun}
use Rattle.law_wellmade.proofs.begun.registers_begin.Goals as goal

pub returns : goal.returns
returns c = begun
