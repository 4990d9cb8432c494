use Rattle.law_choices.proofs.PartLemmas.Worked.{some_part_law}
use Rattle.law_choices.proofs.part.a_worked_part.Goals as goal

pub returns : goal.returns
returns c = some_part_law
