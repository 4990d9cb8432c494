use Rattle.law_automata.proofs.ReadiedLemmas.Whole.{single_law, whole_law}
use Rattle.law_automata.proofs.readied.ready_programs_become_whole.Goals as goal

pub returns-clause-single : goal.returns-clause-single
returns-clause-single c = single_law

pub returns-clause-whole : goal.returns-clause-whole
returns-clause-whole c = whole_law
