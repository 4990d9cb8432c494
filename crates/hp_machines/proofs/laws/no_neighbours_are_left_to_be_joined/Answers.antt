use Rattle.hp_machines.proofs.ApartLaws.{machine-apart}
use Rattle.hp_machines.proofs.laws.no_neighbours_are_left_to_be_joined.Goals as goal

pub returns : goal.returns
returns c = machine-apart
