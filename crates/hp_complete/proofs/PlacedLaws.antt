-- The clocked equations of a node stand for its flat names.
use Rattle.law_equations.proofs.MadeLemmas.MadeLaw as made
use Rattle.hp_complete.specs.Laws.{StandsLaw}

pub stands-for : StandsLaw
stands-for types outputs k fill n f knows ready m = made.stands-for types outputs k fill n f knows ready m.inputs m.outputs m.eqns
