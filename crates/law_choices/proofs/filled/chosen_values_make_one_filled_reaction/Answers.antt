use Rattle.law_choices.proofs.FilledLemmas.Fitting.{fits}
use Rattle.law_choices.proofs.FilledLemmas.Reactions.{one_filled}
use Rattle.law_choices.proofs.filled.chosen_values_make_one_filled_reaction.Goals as goal

pub returns-clause-one : goal.returns-clause-one
returns-clause-one c = one_filled

pub returns-clause-fit : goal.returns-clause-fit
returns-clause-fit c = fits
