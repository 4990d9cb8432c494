use Rattle.law_games.proofs.settled.wires_settle.Goals as goal
use Rattle.law_games.proofs.SettledLemmas.Settled.{settled}
use Rattle.law_games.proofs.SettledLemmas.ZeroValues.{zero_value}
use Rattle.law_games.proofs.SettledLemmas.Wirings.{typed, wirings, zeros}

pub returns-clause-settled : goal.returns-clause-settled
returns-clause-settled c = settled

pub returns-clause-zeros : goal.returns-clause-zeros
returns-clause-zeros c = zeros

pub returns-clause-typed : goal.returns-clause-typed
returns-clause-typed c = typed

pub returns-clause-wiring : goal.returns-clause-wiring
returns-clause-wiring c = wirings

pub returns-clause-value : goal.returns-clause-value
returns-clause-value c = zero_value
