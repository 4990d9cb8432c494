use Rattle.law_equations.proofs.made.comparisons_and_calls_have_places.Goals as goal
use Rattle.law_equations.proofs.MadeLemmas.MadeLaw.{stands-in-places}

pub returns : goal.returns
returns c = stands-in-places
