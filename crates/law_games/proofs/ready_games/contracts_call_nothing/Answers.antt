use Rattle.law_games.proofs.ready_games.contracts_call_nothing.Goals as goal
use Rattle.law_games.proofs.ReadyGamesLemmas.Settled.{ready_contracts}
use Rattle.law_games.proofs.ReadyGamesLemmas.Texts.{text_conditions}

pub returns-clause-text : goal.returns-clause-text
returns-clause-text c = text_conditions

pub returns-clause-ready : goal.returns-clause-ready
returns-clause-ready c = ready_contracts
