use Rattle.law_judged.proofs.PlainLemmas.Spelled.{merges_full, of_text}
use Rattle.law_judged.proofs.plain.merges_of_texts_have_parts.Goals as goal

pub returns-clause-merges : goal.returns-clause-merges
returns-clause-merges c = merges_full

pub returns-clause-of_text : goal.returns-clause-of_text
returns-clause-of_text c = of_text
