use Rattle.law_automata.proofs.LoweredLemmas.RightSteps.{clocks_law, all_right_law}
use Rattle.law_automata.proofs.lowered.clocks_are_kept.Goals as goal

pub returns-clause-node : goal.returns-clause-node
returns-clause-node c = clocks_law

pub returns-clause-program : goal.returns-clause-program
returns-clause-program c = all_right_law
