use Rattle.law_equations.proofs.made.made_equations_stand_for_flat_names.Goals as goal
use Rattle.law_equations.proofs.MadeLemmas.MadeLaw.{stands-for}

pub returns : goal.returns
returns c = stands-for
