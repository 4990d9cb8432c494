-- The machines of the nodes of a program, by their names.
-- Source: own.
use Rattle.std.specs.Prelude.{◌≡◌, ℕ, IsTrue, is_some, List, Some}
use Rattle.hp_obc.specs.Machines.{Obc}
use Rattle.hp_tree.specs.Meaning.{node_among}
use Rattle.hp_tree.specs.Programs.{Node}
use Rattle.hp_tree.specs.declared.program.Item.{Item}
use Rattle.hp_controlled.specs.Chosen.{AreControlledMachines, IsChosen, IsToldBy}
use Rattle.hp_controlled.specs.Choosing.{contract_name}
use Rattle.hp_controlled.specs.Joining.{AreWithContracts}
use Rattle.hp_meaning.specs.Causal.Runs.{NoControls}

-- The machine of each node's name takes its inputs and gives its outputs; that of the name of its contract, if it has one, takes these too, and gives two truth values more.
abbrev pub HaveTheirMachines : List Item → Obc → Type 0
HaveTheirMachines program o = (f : List ℕ) (n : Node) → node_among program f ≡ Some n → IsChosen f o n × (IsTrue (is_some n.contract) → IsToldBy (contract_name f) o n)

-- So it is of the machines that the compiler makes of a program whose nodes choose.
abbrev pub HeadedLaw : Type 0
HeadedLaw = (program : List Item) (o : Obc) → AreControlledMachines program o → HaveTheirMachines program o

-- Of a program without controllable variables they are those of its nodes, and between them those of its contracts: of a controller that gives nothing, and of what is assumed and enforced.
abbrev pub PlainLaw : Type 0
PlainLaw = (program : List Item) (o : Obc) → AreControlledMachines program o → NoControls program → (own : Obc) × AreWithContracts program own o
