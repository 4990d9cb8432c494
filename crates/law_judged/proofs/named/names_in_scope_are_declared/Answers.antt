use Rattle.law_judged.proofs.NamedLemmas.Declared.{node_names}
use Rattle.law_judged.proofs.named.names_in_scope_are_declared.Goals as goal

pub returns : goal.returns
returns c = node_names
