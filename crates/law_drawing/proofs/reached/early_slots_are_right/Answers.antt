use Rattle.law_drawing.proofs.ReachedLemmas.Right.{slots-right, places-right}
use Rattle.law_drawing.proofs.reached.early_slots_are_right.Goals as goal

pub returns : goal.returns
returns c = record { slots = slots-right; places = places-right }
