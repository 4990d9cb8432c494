use Rattle.hp_machines.proofs.NeededLaws.{needed_machines_law}
use Rattle.hp_machines.proofs.laws.machines_have_what_is_needed.Goals as goal

pub returns : goal.returns
returns c = needed_machines_law
