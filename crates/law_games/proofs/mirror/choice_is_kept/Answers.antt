use Rattle.law_games.proofs.mirror.choice_is_kept.Goals as goal
use Rattle.law_games.proofs.MirrorLemmas.SameGames.{same_choice}

pub returns : goal.returns
returns c = same_choice
