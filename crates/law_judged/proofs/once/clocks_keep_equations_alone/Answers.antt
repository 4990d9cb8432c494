use Rattle.law_judged.proofs.OnceLemmas.Clocks.{kept}
use Rattle.law_judged.proofs.once.clocks_keep_equations_alone.Goals as goal

pub returns : goal.returns
returns c = kept
