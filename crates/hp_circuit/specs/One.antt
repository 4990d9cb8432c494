-- That a circuit has one machine.
-- Source: own; what a compiler makes is a function of what it is given.
use Rattle.std.specs.Prelude.{ℕ, ◌≡◌, List}
use Rattle.hp_boolx.specs.Machine.{Machine}
use Rattle.hp_circuit.specs.declared.circuit.Circuit.{Circuit}
use Rattle.hp_circuit.specs.Building.{IsBuilt}
use Rattle.hp_circuit.specs.Giving.{given_of}
use Rattle.hp_circuit.specs.Machines.{IsMachineOf}

-- Two circuits have the same wires and slots.
pub record AreAlike (c d : Circuit) : Type 0 where
  pub wires : c.wires.items ≡ d.wires.items
  pub shapes : c.shapes.items ≡ d.shapes.items
  pub slots : c.slots.items ≡ d.slots.items
  pub reads : c.reads.items ≡ d.reads.items
  pub hyp : c.hyp ≡ d.hyp
  pub duty : c.duty ≡ d.duty

-- They have one machine. It is given the same, and wires have the same first gates in it.
abbrev pub OneMachineLaw : Type 0
OneMachineLaw =
    (name : List ℕ) (c d : Circuit) (starts others : List ℕ) (m n : Machine) → AreAlike c d → (of_c : IsMachineOf name c m) (of_d : IsMachineOf name d n) → IsBuilt c starts m → IsBuilt d others n
    → (m ≡ n) × (given_of of_c.steered c.slots.items ≡ given_of of_d.steered d.slots.items) × (starts ≡ others)
