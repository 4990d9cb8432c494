use Rattle.law_equations.proofs.ShapedLemmas.KeptLaws.{kept_law}
use Rattle.law_equations.proofs.shaped.shape_is_kept.Goals as goal

pub returns : goal.returns
returns c = kept_law
