use Rattle.law_history.proofs.StreamsLemmas.Built.{within_limits}
use Rattle.law_history.proofs.streams.machines_of_texts_are_within_limits.Goals as goal

pub returns : goal.returns
returns c = within_limits c.machines_of_texts_are_few.ensures.few
