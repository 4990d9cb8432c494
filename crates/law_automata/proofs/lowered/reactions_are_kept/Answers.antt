use Rattle.law_automata.proofs.LoweredLemmas.Reactions.{reads, real_law, only_law, outputs_law}
use Rattle.law_automata.proofs.LoweredLemmas.Uncontrolled.{uncontrolled_law}
use Rattle.law_automata.proofs.lowered.reactions_are_kept.Goals as goal

pub returns-clause-as_read : goal.returns-clause-as_read
returns-clause-as_read c = reads

pub returns-clause-real : goal.returns-clause-real
returns-clause-real c = real_law

pub returns-clause-only : goal.returns-clause-only
returns-clause-only c = only_law

pub returns-clause-outputs : goal.returns-clause-outputs
returns-clause-outputs c = outputs_law

pub returns-clause-uncontrolled : goal.returns-clause-uncontrolled
returns-clause-uncontrolled c = uncontrolled_law
