use Rattle.law_games.proofs.ready_games.fitting_games_are_kept.Goals as goal
use Rattle.law_games.proofs.ReadyGamesLemmas.Histories.{ready_nil, ready_fitting_game, ready_fitting_safe, ready_history}

pub returns-clause-nil : goal.returns-clause-nil
returns-clause-nil c = ready_nil

pub returns-clause-forced : goal.returns-clause-forced
returns-clause-forced c = ready_fitting_game

pub returns-clause-safe : goal.returns-clause-safe
returns-clause-safe c = ready_fitting_safe

pub returns-clause-later : goal.returns-clause-later
returns-clause-later c = ready_history
