use Rattle.law_choices.proofs.AddingLemmas.Base.{base_law}
use Rattle.law_choices.proofs.adding.equations_may_be_added_on_the_base_clock.Goals as goal

pub returns : goal.returns
returns c = base_law
