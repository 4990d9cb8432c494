use Rattle.hp_compile.proofs.FormLaws.{one_breach, well_formed, formed}
use Rattle.hp_compile.proofs.laws.one_walk.Goals as goal

pub returns-clause-formed : goal.returns-clause-formed
returns-clause-formed c = λ text program judged. (formed text program judged, well_formed text program judged)

pub returns-clause-breach : goal.returns-clause-breach
returns-clause-breach c = one_breach
