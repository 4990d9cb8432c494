use Rattle.law_automata.proofs.ReadiedLemmas.Outputs.{outputs_law}
use Rattle.law_automata.proofs.ReadiedLemmas.Plainly.{plain_law}
use Rattle.law_automata.proofs.readied.names_are_defined_once.Goals as goal

pub returns-clause-plain : goal.returns-clause-plain
returns-clause-plain c = plain_law

pub returns-clause-outputs : goal.returns-clause-outputs
returns-clause-outputs c = outputs_law
