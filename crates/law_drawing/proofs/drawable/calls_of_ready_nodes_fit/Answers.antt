use Rattle.law_drawing.proofs.DrawableLemmas.Fitting.{told, fits}
use Rattle.law_drawing.proofs.drawable.calls_of_ready_nodes_fit.Goals as goal

pub returns-clause-told : goal.returns-clause-told
returns-clause-told c = told

pub returns-clause-fits : goal.returns-clause-fits
returns-clause-fits c = fits
