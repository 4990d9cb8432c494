use Rattle.law_choices.proofs.OrderedLemmas.Written.{written_law}
use Rattle.law_choices.proofs.ordered.clocks_stay_written.Goals as goal

pub returns : goal.returns
returns c = written_law
