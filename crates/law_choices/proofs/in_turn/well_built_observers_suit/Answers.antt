use Rattle.law_choices.proofs.InTurnLemmas.Observers.{observer_law}
use Rattle.law_choices.proofs.in_turn.well_built_observers_suit.Goals as goal

pub returns : goal.returns
returns c = observer_law
