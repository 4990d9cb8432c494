use Rattle.law_choices.proofs.UndisturbedLemmas.Contracts.{reads_outputs_law}
use Rattle.law_choices.proofs.undisturbed.observers_read_no_more.Goals as goal

pub returns : goal.returns
returns c = reads_outputs_law
