use Rattle.law_games.proofs.mirror.game_is_kept.Goals as goal
use Rattle.law_games.proofs.MirrorLemmas.SameGames.{same_game, same_safe, same_at_first, same_permitted}

pub returns-clause-forced : goal.returns-clause-forced
returns-clause-forced c = same_game

pub returns-clause-safe : goal.returns-clause-safe
returns-clause-safe c = same_safe

pub returns-clause-at_first : goal.returns-clause-at_first
returns-clause-at_first c = same_at_first

pub returns-clause-permitted : goal.returns-clause-permitted
returns-clause-permitted c = same_permitted
