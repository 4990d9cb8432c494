use Rattle.law_drawing.proofs.MirroringLemmas.Ready.{carried_game, carried_safe}
use Rattle.law_drawing.proofs.mirroring.carried_games_are_kept.Goals as goal

pub returns-clause-forced : goal.returns-clause-forced
returns-clause-forced c = carried_game

pub returns-clause-safe : goal.returns-clause-safe
returns-clause-safe c = carried_safe
