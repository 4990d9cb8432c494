use Rattle.law_choices.proofs.AddingLemmas.Steps.{based_law}
use Rattle.law_choices.proofs.adding.inputs_are_on_the_base_clock.Goals as goal

pub returns : goal.returns
returns c = based_law
