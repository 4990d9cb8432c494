use Rattle.law_judged.proofs.PlainLemmas.Spelled.{text_replaced}
use Rattle.law_judged.proofs.plain.replaced_texts_keep_scopes.Goals as goal

pub returns : goal.returns
returns c = text_replaced
