use Rattle.hp_drawing.proofs.NodeDrawn.{node-planned}
use Rattle.hp_drawing.proofs.slots_are_planned.Goals as goal

pub returns : goal.returns
returns c = node-planned
