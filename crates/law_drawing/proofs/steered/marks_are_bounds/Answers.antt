use Rattle.law_drawing.specs.Steered.Laws.{told_by}
use Rattle.law_drawing.proofs.SteeredLemmas.Steered.{leads, free-leads}
use Rattle.law_drawing.proofs.steered.marks_are_bounds.Goals as goal

pub returns : goal.returns
returns c = record { leads = λ f free. leads (told_by f free); stands = λ f free. free-leads (told_by f free) }
