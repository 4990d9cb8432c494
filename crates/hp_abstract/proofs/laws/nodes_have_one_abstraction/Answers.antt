use Rattle.hp_circuit.proofs.OneLaws.{one_machine}
use Rattle.hp_abstract.proofs.OneLaws.{one_abstraction}
use Rattle.hp_abstract.proofs.laws.nodes_have_one_abstraction.Goals as goal

pub returns : goal.returns
returns c = one_abstraction one_machine
