use Rattle.law_controlled.proofs.ObserverLaws.{observers_suit_law}
use Rattle.law_controlled.proofs.observers_suit.Goals as goal

pub returns : goal.returns
returns c = observers_suit_law c.observers_of_contracts_suit.ensures c.well_built_observers_suit.ensures
