use Rattle.law_choices.proofs.OrderedLemmas.Declared.{declared_law}
use Rattle.law_choices.proofs.ordered.names_stay_declared.Goals as goal

pub returns : goal.returns
returns c = declared_law c.names_are_defined_once.ensures.outputs
