use Rattle.law_games.proofs.forced.permitted_is_fitting.Goals as goal
use Rattle.law_games.proofs.ForcedLemmas.Games.{instants, may_choose, granted}

pub returns-clause-instants : goal.returns-clause-instants
returns-clause-instants c = instants

pub returns-clause-permitted : goal.returns-clause-permitted
returns-clause-permitted c = may_choose

pub returns-clause-granted : goal.returns-clause-granted
returns-clause-granted c = granted
