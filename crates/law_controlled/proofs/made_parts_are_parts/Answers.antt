use Rattle.law_controlled.proofs.PartLaws.{made_part}
use Rattle.law_controlled.proofs.made_parts_are_parts.Goals as goal

pub returns : goal.returns
returns c = made_part
