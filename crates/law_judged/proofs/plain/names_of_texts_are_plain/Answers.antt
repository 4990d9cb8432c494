use Rattle.law_judged.proofs.PlainLemmas.Spelled.{names_plain}
use Rattle.law_judged.proofs.plain.names_of_texts_are_plain.Goals as goal

pub returns : goal.returns
returns c = names_plain
