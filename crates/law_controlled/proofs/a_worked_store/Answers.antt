use Rattle.law_controlled.proofs.WorkedLaws.{store_law}
use Rattle.law_controlled.proofs.a_worked_store.Goals as goal

pub returns : goal.returns
returns c = store_law
