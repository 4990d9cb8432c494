use Rattle.law_games.proofs.mirror.filled_histories_are_kept.Goals as goal
use Rattle.law_games.proofs.MirrorLemmas.SameFilled.{same_filled_game, same_filled_safe}

pub returns-clause-forced : goal.returns-clause-forced
returns-clause-forced c = same_filled_game

pub returns-clause-safe : goal.returns-clause-safe
returns-clause-safe c = same_filled_safe
