use Rattle.law_judged.proofs.ReplacedLemmas.ReplacedNodes.{node_replaced, program_replaced}
use Rattle.law_judged.proofs.replaced.replacing_keeps_scopes.Goals as goal

pub returns-clause-node : goal.returns-clause-node
returns-clause-node c = node_replaced

pub returns-clause-program : goal.returns-clause-program
returns-clause-program c = program_replaced
