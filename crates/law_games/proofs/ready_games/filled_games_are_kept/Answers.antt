use Rattle.law_games.proofs.ready_games.filled_games_are_kept.Goals as goal
use Rattle.law_games.proofs.ReadyGamesLemmas.Settled.{ready_filled_game, ready_filled_safe}

pub returns-clause-forced : goal.returns-clause-forced
returns-clause-forced c = ready_filled_game

pub returns-clause-safe : goal.returns-clause-safe
returns-clause-safe c = ready_filled_safe
