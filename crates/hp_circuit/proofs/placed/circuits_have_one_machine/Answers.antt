use Rattle.hp_circuit.proofs.OneLaws.{one_machine}
use Rattle.hp_circuit.proofs.placed.circuits_have_one_machine.Goals as goal

pub returns : goal.returns
returns c = one_machine
