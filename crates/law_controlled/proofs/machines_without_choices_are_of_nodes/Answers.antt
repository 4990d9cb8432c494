use Rattle.law_controlled.proofs.HeadedLaws.{plain_law}
use Rattle.law_controlled.proofs.machines_without_choices_are_of_nodes.Goals as goal

pub returns : goal.returns
returns c = plain_law
