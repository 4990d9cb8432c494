use Rattle.law_equations.proofs.followed.constants_tell.Goals as goal
use Rattle.law_equations.proofs.FollowedLemmas.ConstantLaws.{constants_law}

pub returns : goal.returns
returns c = constants_law
