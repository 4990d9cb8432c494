use Rattle.law_drawing.proofs.NoCircleLemmas.Ready.{node-circle}
use Rattle.law_drawing.proofs.no_circle.drawn_wires_are_in_no_circle.Goals as goal

pub returns : goal.returns
returns c = node-circle
