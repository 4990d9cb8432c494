use Rattle.hp_complete.proofs.KnownLaws.{known}
use Rattle.hp_complete.proofs.known_names_agree.Goals as goal

pub returns : goal.returns
returns c = known
