use Rattle.law_drawing.proofs.carrying.blocks_are_drawn.Goals as goal
use Rattle.law_drawing.proofs.CarryingLemmas.Wholes.{block-carried}

pub returns : goal.returns
returns c = record { drawn = block-carried }
