use Rattle.hp_native.proofs.SteppingLaws.{new_native}
use Rattle.hp_native.proofs.stepping.links_change_nothing.Goals as goal

pub returns : goal.returns
returns c = new_native
