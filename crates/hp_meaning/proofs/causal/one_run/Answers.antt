use Rattle.hp_meaning.proofs.causal.one_run.Goals as goal
use Rattle.hp_meaning.proofs.CausalLemmas.Run.{run, one_run as only_run}

pub returns-clause-some : goal.returns-clause-some
returns-clause-some c = run

pub returns-clause-only : goal.returns-clause-only
returns-clause-only c = only_run
