use Rattle.law_drawing.proofs.DrawableLemmas.Programs.{drawable}
use Rattle.law_drawing.proofs.drawable.ready_nodes_can_be_drawn.Goals as goal

pub returns : goal.returns
returns c = drawable
