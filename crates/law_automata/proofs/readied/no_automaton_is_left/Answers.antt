use Rattle.law_automata.proofs.ReadiedLemmas.NoAutomata.{lowered_law}
use Rattle.law_automata.proofs.readied.no_automaton_is_left.Goals as goal

pub returns : goal.returns
returns c = lowered_law
