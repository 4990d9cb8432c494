use Rattle.law_choices.proofs.once.ready_runs_are_one.Goals as goal
use Rattle.law_choices.proofs.OnceLemmas.Ready.{ready_reaction, ready_run}

pub returns-clause-reaction : goal.returns-clause-reaction
returns-clause-reaction c = ready_reaction c.contracts_call_nothing.ensures.ready c.chosen_runs_are_one.ensures.reaction

pub returns-clause-run : goal.returns-clause-run
returns-clause-run c = ready_run c.contracts_call_nothing.ensures.ready c.chosen_runs_are_one.ensures.run
