use Rattle.law_judged.proofs.ReplacedLemmas.CallsFit.{calls_fit}
use Rattle.law_judged.proofs.replaced.typed_calls_fit.Goals as goal

pub returns : goal.returns
returns c = calls_fit
