use Rattle.hp_machines.proofs.OneLaws.{one_machines_law}
use Rattle.hp_machines.proofs.laws.programs_have_one_list_of_machines.Goals as goal

pub returns : goal.returns
returns c = one_machines_law
