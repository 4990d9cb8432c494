use Rattle.hp_past.proofs.ReadableLaws.{unfolded-read-back}
use Rattle.hp_past.proofs.laws.unfolded_programs_are_read_back.Goals as goal

pub returns : goal.returns
returns c = unfolded-read-back
