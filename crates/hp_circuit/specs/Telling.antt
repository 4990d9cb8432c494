-- A machine whose wires have these first gates: words for the contracts of private functions.
use Rattle.std.specs.Prelude.{ℕ, ◌≡◌, Bool, List}
use Rattle.hp_boolx.specs.Machine.{Machine}
use Rattle.hp_circuit.specs.declared.circuit.Circuit.{Circuit}
use Rattle.hp_circuit.specs.Machines.{IsMachineOf}
use Rattle.hp_circuit.specs.Giving.{gate_of, IsGateOf}

-- It is the machine of a circuit, it is known which wires read a controllable variable, and the gates of truth values tell them.
pub record IsWiredMachine (name : List ℕ) (c : Circuit) (steered : List Bool) (starts : List ℕ) (m : Machine) : Type 0 where
  pub machine : IsMachineOf name c m
  pub are_steered : machine.steered ≡ steered
  pub tells : (w : ℕ) → IsGateOf c machine.places m.gates w (gate_of c.shapes.items starts w)
