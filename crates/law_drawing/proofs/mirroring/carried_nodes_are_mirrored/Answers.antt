use Rattle.law_drawing.proofs.MirroringLemmas.Carried.{carried}
use Rattle.law_drawing.proofs.MirroringLemmas.Numbered.{numbered}
use Rattle.law_drawing.proofs.mirroring.carried_nodes_are_mirrored.Goals as goal

pub returns-clause-mirrors : goal.returns-clause-mirrors
returns-clause-mirrors c = carried

pub returns-clause-numbered : goal.returns-clause-numbered
returns-clause-numbered c = numbered
