use Rattle.law_choices.proofs.AddingLemmas.Worked.{some_adding_law}
use Rattle.law_choices.proofs.adding.a_worked_addition.Goals as goal

pub returns : goal.returns
returns c = some_adding_law
