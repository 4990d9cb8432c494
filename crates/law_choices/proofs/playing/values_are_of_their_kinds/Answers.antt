use Rattle.law_choices.proofs.PlayingLemmas.Steering.{typed_at_law}
use Rattle.law_choices.proofs.playing.values_are_of_their_kinds.Goals as goal

pub returns : goal.returns
returns c = typed_at_law
