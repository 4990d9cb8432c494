use Rattle.law_judged.proofs.ReplacedLemmas.Numbered.{node_numbered}
use Rattle.law_judged.proofs.replaced.numbering_keeps_scopes.Goals as goal

pub returns : goal.returns
returns c = node_numbered
