-- The machine of a node's contract, with what a compiler of controllers needs besides.
use Rattle.std.specs.Prelude.{ℕ, ◌≡◌, List}
use Rattle.hp_tree.specs.declared.program.Item.{Item}
use Rattle.hp_tree.specs.Programs.{Node}
use Rattle.hp_circuit.specs.declared.circuit.Circuit.{Circuit}
use Rattle.hp_circuit.specs.Building.{IsBuilt}
use Rattle.hp_circuit.specs.Giving.{gate_of, given_of, IsGateOf}
use Rattle.hp_circuit.specs.Machines as circuit
use Rattle.hp_drawing.specs.DrawnNodes.{drawn_node}
use Rattle.hp_drawing.specs.Seen.{IsOf}
use Rattle.hp_drawing.specs.Told.{told_of}
use Rattle.hp_abstract.specs.declared.abstracted.Abstraction.{Abstraction}
use Rattle.hp_abstract.specs.Enforced.{enforced}
use Rattle.hp_abstract.specs.Machines.{IsMachineOf}

-- It is the machine of a node. In the circuit that is drawn of the node it is told of each input and free value, in the order of slots, whether it is early, and the gates of what is assumed and enforced are those of their wires. The circuit determines all of it.
pub record IsAbstractionOf (program : List Item) (n : Node) (a : Abstraction) : Type 0 where
  pub machine : IsMachineOf program n a.machine
  pub drawn : Circuit
  pub is_drawn : IsOf drawn (drawn_node (told_of program) n)
  pub is_machine : circuit.IsMachineOf n.name drawn a.machine
  pub given : a.given.items ≡ given_of is_machine.steered drawn.slots.items
  pub assume : IsGateOf drawn is_machine.places a.machine.gates drawn.assume a.assume
  pub enforce : IsGateOf drawn is_machine.places a.machine.gates (enforced (told_of program) n) a.enforce
  pub starts : List ℕ
  pub built : IsBuilt drawn starts a.machine
  pub tells_assume : a.assume ≡ gate_of drawn.shapes.items starts drawn.assume
  pub tells_enforce : a.enforce ≡ gate_of drawn.shapes.items starts (enforced (told_of program) n)

-- So a node has one abstraction.
pub record AreOne (a b : Abstraction) : Type 0 where
  pub machine : a.machine ≡ b.machine
  pub given : a.given.items ≡ b.given.items
  pub assume : a.assume ≡ b.assume
  pub enforce : a.enforce ≡ b.enforce

abbrev pub OneAbstractionLaw : Type 0
OneAbstractionLaw = (program : List Item) (n : Node) (a b : Abstraction) → IsAbstractionOf program n a → IsAbstractionOf program n b → AreOne a b
