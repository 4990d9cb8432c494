use Rattle.law_automata.proofs.ReadiedLemmas.Accepted.{accepted_law}
use Rattle.law_automata.proofs.readied.programs_with_classes_are_accepted.Goals as goal

pub returns : goal.returns
returns c = accepted_law
