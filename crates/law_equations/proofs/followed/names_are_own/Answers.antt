use Rattle.law_equations.proofs.followed.names_are_own.Goals as goal
use Rattle.law_equations.proofs.FollowedLemmas.Labels.{own_names_law}

pub returns : goal.returns
returns c = own_names_law
