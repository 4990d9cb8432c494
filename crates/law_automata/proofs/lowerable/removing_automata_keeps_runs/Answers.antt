use Rattle.law_automata.proofs.LowerableLemmas.Runs.{kept_law, run_law}
use Rattle.law_automata.proofs.lowerable.removing_automata_keeps_runs.Goals as goal

pub returns-clause-reactions : goal.returns-clause-reactions
returns-clause-reactions c = kept_law

pub returns-clause-runs : goal.returns-clause-runs
returns-clause-runs c = run_law
