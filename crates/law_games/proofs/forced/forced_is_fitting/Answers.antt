use Rattle.law_games.proofs.forced.forced_is_fitting.Goals as goal
use Rattle.law_games.proofs.ForcedLemmas.Games.{next, histories, forced, safe, forced_at_first, safe_at_first, contract_game, contract_safe, later}

pub returns-clause-next : goal.returns-clause-next
returns-clause-next c = next

pub returns-clause-histories : goal.returns-clause-histories
returns-clause-histories c = histories

pub returns-clause-forced : goal.returns-clause-forced
returns-clause-forced c = forced

pub returns-clause-safe : goal.returns-clause-safe
returns-clause-safe c = safe

pub returns-clause-forced_at_first : goal.returns-clause-forced_at_first
returns-clause-forced_at_first c = forced_at_first

pub returns-clause-safe_at_first : goal.returns-clause-safe_at_first
returns-clause-safe_at_first c = safe_at_first

pub returns-clause-game : goal.returns-clause-game
returns-clause-game c = contract_game

pub returns-clause-safe_game : goal.returns-clause-safe_game
returns-clause-safe_game c = contract_safe

pub returns-clause-later : goal.returns-clause-later
returns-clause-later c = later
