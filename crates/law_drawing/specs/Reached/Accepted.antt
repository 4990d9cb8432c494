-- What is asked of a node is met by sound and well named ones: each declared name has an equation, and no output is an input.
-- Source: own.
use Rattle.std.specs.Prelude.{ℕ, ◌≡◌, Bool, List, Option, Some, Contains}
use Rattle.hp_tree.specs.declared.program.Item.{Item}
use Rattle.hp_tree.specs.declared.program.Item.TheVariants.{NodeItem}
use Rattle.hp_tree.specs.Meaning.{controls_of}
use Rattle.hp_tree.specs.Programs.{TypeDecl, Contract, Node}
use Rattle.hp_names.specs.Rules.{WellNamed}
use Rattle.law_judged.specs.Typed.Scopes.{Scope}
use Rattle.law_values.specs.Valued.Judged.{Lasts, ContractSound, NodeSound}
use Rattle.hp_circuit.specs.declared.circuit.Circuit.{Circuit}
use Rattle.hp_circuit.specs.Reading.{edges_of, AreSteered}
use Rattle.hp_meaning.specs.Contract.Forgetting.{ContractsCallNothing}
use Rattle.hp_meaning.specs.Contract.Slots.{slots_of_node}
use Rattle.hp_drawing.specs.DrawnNodes.{drawn_node}
use Rattle.hp_drawing.specs.Seen.{IsOf}
use Rattle.hp_drawing.specs.Told.{Told, told_of}
use Rattle.law_drawing.specs.Steered.Nodes.{NodeFits}
use Rattle.law_drawing.specs.Carried.Early.{AreRight, IsRight}
use Rattle.law_drawing.specs.Reached.Filled.{ContractFilled}
use Rattle.law_drawing.specs.Reached.Reached.{NoIntegers, NodeReads}

-- In a sound contract each name that a block declares has an equation,
abbrev pub ContractFilledLaw : Type 0
ContractFilledLaw = (types : List TypeDecl) (among : List ℕ → Option Node) (s : Scope) (lasts : Lasts) (c : Option Contract) → ContractSound types among s lasts c → ContractFilled c

-- and so it is in a sound node of a well named program, where it is in all contracts; so the node is as it is asked for, where none of its controllable variables is an integer.
abbrev pub NodeReadsLaw : Type 0
NodeReadsLaw =
    (program : List Item) (types : List TypeDecl) (among : List ℕ → Option Node) (t : Told) (s : Scope) (n : Node) → WellNamed program → Contains program (NodeItem n) → NodeSound types among s n → ((f : List ℕ) (m : Node) → t.nodes f ≡ Some m → ContractFilled m.contract) → NoIntegers (controls_of n.contract) → NodeReads t n

-- In a judged program each free slot of the circuit that is drawn of a node is early exactly where its place is,
abbrev pub SlotsRightLaw : Type 0
SlotsRightLaw =
    (program : List Item) (n : Node) (c : Circuit) → ContractsCallNothing program → WellNamed program → Contains program (NodeItem n) → NodeFits (told_of program) n → NodeReads (told_of program) n → IsOf c (drawn_node (told_of program) n)
    → (steered : List Bool) → AreSteered c.slots.items (edges_of c.wires.items c.reads.items) steered → AreRight program n steered (slots_of_node program n) c.slots.items

-- so the places that the circuit has early are the early places of the node.
abbrev pub PlacesRightLaw : Type 0
PlacesRightLaw =
    (program : List Item) (n : Node) (c : Circuit) → ContractsCallNothing program → WellNamed program → Contains program (NodeItem n) → NodeFits (told_of program) n → NodeReads (told_of program) n → IsOf c (drawn_node (told_of program) n)
    → (steered : List Bool) → AreSteered c.slots.items (edges_of c.wires.items c.reads.items) steered → IsRight program n steered (slots_of_node program n) c.slots.items
