use Rattle.law_automata.proofs.LowerableLemmas.Decided.{decided_law, filled_decided_law}
use Rattle.law_automata.proofs.lowerable.conditions_have_truth_values.Goals as goal

pub returns-clause-real : goal.returns-clause-real
returns-clause-real c = decided_law

pub returns-clause-filled : goal.returns-clause-filled
returns-clause-filled c = filled_decided_law
