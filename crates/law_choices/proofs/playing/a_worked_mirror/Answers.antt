use Rattle.law_choices.proofs.PlayingLemmas.WorkedMirror.{some_mirrored_law}
use Rattle.law_choices.proofs.playing.a_worked_mirror.Goals as goal

pub returns : goal.returns
returns c = some_mirrored_law c.lines_give_their_functions.ensures.well_made
