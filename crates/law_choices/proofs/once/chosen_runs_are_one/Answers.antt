use Rattle.law_choices.proofs.once.chosen_runs_are_one.Goals as goal
use Rattle.law_choices.proofs.OnceLemmas.Once.{one_chosen_reaction, one_chosen_run}
use Rattle.law_choices.proofs.OnceLemmas.Worked.{some_run}

pub returns-clause-reaction : goal.returns-clause-reaction
returns-clause-reaction c = one_chosen_reaction c.one_steered_run.ensures c.choices_are_determined.ensures.chosen

pub returns-clause-run : goal.returns-clause-run
returns-clause-run c = one_chosen_run c.one_steered_run.ensures c.choices_are_determined.ensures.chosen

pub returns-clause-some : goal.returns-clause-some
returns-clause-some c = some_run c.kept_is_safe.ensures
