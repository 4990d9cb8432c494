use Rattle.law_judged.proofs.ReplacedLemmas.Enough.{few_variables}
use Rattle.law_judged.proofs.replaced.numbers_are_enough.Goals as goal

pub returns : goal.returns
returns c = few_variables
