use Rattle.hp_circuit.proofs.PlacedLemmas.Told.{told}
use Rattle.hp_circuit.proofs.placed.gates_tell_solutions.Goals as goal

pub returns : goal.returns
returns c = told
