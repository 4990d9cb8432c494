use Rattle.law_drawing.proofs.UncalledLemmas.Nodes.{uncalled}
use Rattle.law_drawing.proofs.uncalled.nothing_else_is_owed.Goals as goal

pub returns : goal.returns
returns c = uncalled
