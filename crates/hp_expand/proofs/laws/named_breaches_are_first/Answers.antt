use Rattle.hp_expand.proofs.FirstBreachLaws.{first_law}
use Rattle.hp_expand.proofs.laws.named_breaches_are_first.Goals as goal

pub returns : goal.returns
returns c = first_law
