use Rattle.law_drawing.proofs.MirrorsLemmas.Ready.{assume_is}
use Rattle.law_drawing.proofs.mirrors.assumptions_read_controls.Goals as goal

pub returns : goal.returns
returns c = assume_is
