use Rattle.law_values.proofs.AcceptedLemmas.Laws.{ready_text}
use Rattle.law_values.proofs.accepted.arranged_texts_are_ready.Goals as goal

pub returns : goal.returns
returns c = ready_text
