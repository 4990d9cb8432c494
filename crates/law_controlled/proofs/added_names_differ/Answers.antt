use Rattle.law_controlled.proofs.AddedLaws.{choosing_adds}
use Rattle.law_controlled.proofs.NameLaws.{names_law}
use Rattle.law_controlled.proofs.added_names_differ.Goals as goal

pub returns-clause-names : goal.returns-clause-names
returns-clause-names c = names_law

pub returns-clause-chooses : goal.returns-clause-chooses
returns-clause-chooses c = choosing_adds
