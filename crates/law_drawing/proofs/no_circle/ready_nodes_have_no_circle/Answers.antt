use Rattle.law_drawing.proofs.NoCircleLemmas.Ready.{ready-circle}
use Rattle.law_drawing.proofs.no_circle.ready_nodes_have_no_circle.Goals as goal

pub returns : goal.returns
returns c = ready-circle
