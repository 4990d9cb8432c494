-- The early slots of a circuit that is drawn of a node are the early places of the node.
-- Source: own.
use Rattle.std.specs.Prelude.{ℕ, ◌≡◌, ◌<◌, Bool, true, Contains, List, length}
use Rattle.hp_tree.specs.declared.program.Item.{Item}
use Rattle.hp_tree.specs.declared.program.Item.TheVariants.{NodeItem}
use Rattle.hp_tree.specs.Programs.{Node}
use Rattle.hp_circuit.specs.declared.circuit.Circuit.{Circuit}
use Rattle.hp_circuit.specs.declared.circuit.Role.TheVariants as role
use Rattle.hp_circuit.specs.Forms.{slot_at}
use Rattle.hp_circuit.specs.Reading.{edges_of, IsSteered, AreSteered}
use Rattle.hp_meaning.specs.Contract.Forgetting.{ContractsCallNothing}
use Rattle.hp_meaning.specs.Contract.Slots.{slots_of_node}
use Rattle.hp_drawing.specs.DrawnNodes.{drawn_node}
use Rattle.hp_drawing.specs.Seen.{IsOf}
use Rattle.hp_drawing.specs.Sketch.{Sketch}
use Rattle.hp_drawing.specs.Told.{told_of}
use Rattle.hp_names.specs.Rules.{WellNamed}
use Rattle.law_drawing.specs.Steered.Laid.{slot_place}
use Rattle.law_drawing.specs.Steered.Nodes.{Depends, NodeFits}
use Rattle.law_drawing.specs.Carried.Early.{AreRight}

-- Each free slot that may be early by its role, and whose place depends on a controllable variable, has a wire that reads one by some chain.
abbrev pub IsReached : List Item → Node → Sketch → Type 0
IsReached program n s = (i : ℕ) → i < length s.slots → (slot_at s.slots i).role ≡ role.Free true → Depends n (slot_place program n i) → IsSteered s.slots (edges_of s.wires s.reads) (slot_at s.slots i).wire

-- Then, in a judged program and where it is told of each wire whether it reads one, each free slot of the circuit of a node is early exactly where its place is.
abbrev pub RightLaw : Type 0
RightLaw =
    (program : List Item) (n : Node) (c : Circuit) → ContractsCallNothing program → WellNamed program → Contains program (NodeItem n) → NodeFits (told_of program) n → IsOf c (drawn_node (told_of program) n) → IsReached program n (drawn_node (told_of program) n)
    → (steered : List Bool) → AreSteered c.slots.items (edges_of c.wires.items c.reads.items) steered → AreRight program n steered (slots_of_node program n) c.slots.items
