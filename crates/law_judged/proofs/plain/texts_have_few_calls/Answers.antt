use Rattle.law_judged.proofs.PlainLemmas.CallsOfTexts.{few_calls}
use Rattle.law_judged.proofs.plain.texts_have_few_calls.Goals as goal

pub returns : goal.returns
returns c = few_calls
