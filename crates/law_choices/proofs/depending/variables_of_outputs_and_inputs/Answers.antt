use Rattle.law_choices.proofs.DependingLemmas.Variables.{variables_law}
use Rattle.law_choices.proofs.depending.variables_of_outputs_and_inputs.Goals as goal

pub returns : goal.returns
returns c = variables_law
