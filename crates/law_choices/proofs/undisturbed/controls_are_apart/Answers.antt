use Rattle.law_choices.proofs.UndisturbedLemmas.Ready.{apart_law}
use Rattle.law_choices.proofs.undisturbed.controls_are_apart.Goals as goal

pub returns : goal.returns
returns c = apart_law
