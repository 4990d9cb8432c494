use Rattle.law_wellmade.proofs.BegunLemmas.BegunLaws.{few_types}
use Rattle.law_wellmade.proofs.begun.texts_have_few_types.Goals as goal

pub returns : goal.returns
returns c = few_types
