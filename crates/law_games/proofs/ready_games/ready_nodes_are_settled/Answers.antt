use Rattle.law_games.proofs.ready_games.ready_nodes_are_settled.Goals as goal
use Rattle.law_games.proofs.ReadyGamesLemmas.Settled.{ready_settled, ready_shape}

pub returns-clause-settled : goal.returns-clause-settled
returns-clause-settled c = ready_settled

pub returns-clause-shape : goal.returns-clause-shape
returns-clause-shape c = ready_shape
