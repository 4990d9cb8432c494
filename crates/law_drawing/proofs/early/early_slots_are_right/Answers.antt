use Rattle.law_drawing.proofs.EarlyLemmas.Right.{node-right}
use Rattle.law_drawing.proofs.early.early_slots_are_right.Goals as goal

pub returns : goal.returns
returns c = node-right
