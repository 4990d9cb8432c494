use Rattle.law_choices.proofs.AddingLemmas.Embeds.{embedded_law}
use Rattle.law_choices.proofs.adding.observers_may_be_put.Goals as goal

pub returns : goal.returns
returns c = embedded_law
