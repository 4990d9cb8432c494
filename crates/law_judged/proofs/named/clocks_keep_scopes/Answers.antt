use Rattle.law_judged.proofs.NamedLemmas.Clocks.{kept}
use Rattle.law_judged.proofs.named.clocks_keep_scopes.Goals as goal

pub returns : goal.returns
returns c = kept
