-- What the circuit that is drawn of a node has of the node: its slots, and what registers hold at first.
use Rattle.std.specs.Prelude.{◌≡◌, ⊤, Bool, Contains, List, [], ◌∷◌}
use Rattle.hp_tree.specs.declared.program.Item.{Item}
use Rattle.hp_tree.specs.declared.program.Item.TheVariants.{NodeItem}
use Rattle.hp_tree.specs.Instant.{Place}
use Rattle.hp_tree.specs.Meaning.{types_of}
use Rattle.hp_tree.specs.Programs.{Node}
use Rattle.hp_meaning.specs.Contract.Forgetting.{ContractsCallNothing}
use Rattle.hp_meaning.specs.Contract.Memory.{memory}
use Rattle.hp_meaning.specs.Contract.Slots as slots
use Rattle.hp_meaning.specs.Contract.Slots.{register, free, input, control, slots_of_node}
use Rattle.hp_circuit.specs.declared.circuit.Circuit.{Circuit}
use Rattle.hp_circuit.specs.declared.circuit.Slot.{Slot}
use Rattle.hp_circuit.specs.Kinds.{kind_of}
use Rattle.hp_drawing.specs.DrawnNodes.{drawn_node}
use Rattle.hp_drawing.specs.Seen.{IsOf}
use Rattle.hp_drawing.specs.Told.{told_of}
use Rattle.hp_names.specs.Rules.{WellNamed}
use Rattle.law_drawing.specs.Mirroring.Carried.{AreBegun, any_slot}
use Rattle.law_drawing.specs.Mirroring.Codes.{Begins, free_kind, AreSlotsOf}

-- Of each free place it is told whether the circuit has it early.
abbrev pub IsTold : (Place → Bool) → List Bool → Place → Slot → Type 0
IsTold early steered p c = kind_of steered c ≡ free_kind [] early p

abbrev pub AreTold : (Place → Bool) → List Bool → List slots.Slot → List Slot → Type 0
AreTold early steered [] cs = ⊤
AreTold early steered (register p slots.truth ∷ ss) cs = Begins any_slot (AreTold early steered ss) cs
AreTold early steered (register p slots.mark ∷ ss) cs = AreTold early steered ss cs
AreTold early steered (register p (slots.cons t m) ∷ ss) cs = Begins any_slot (AreTold early steered ss) cs
AreTold early steered (free p t ∷ ss) cs = Begins (IsTold early steered p) (AreTold early steered ss) cs
AreTold early steered (input p t ∷ ss) cs = Begins any_slot (AreTold early steered ss) cs
AreTold early steered (control p t ∷ ss) cs = Begins any_slot (AreTold early steered ss) cs

-- In a judged program the circuit that is drawn of a node has the slots of the node, in order, where it is told which free places are early in the circuit; and its registers begin as memory does.
pub record HasSlots (program : List Item) (n : Node) (c : Circuit) : Type 0 where
  pub slots : (early : Place → Bool) (steered : List Bool) → AreTold early steered (slots_of_node program n) c.slots.items → AreSlotsOf (types_of program) early steered (slots_of_node program n) c.slots.items
  pub begun : AreBegun (memory program n []) (slots_of_node program n) c.slots.items

abbrev pub NodeSlotsLaw : Type 0
NodeSlotsLaw =
    (program : List Item) (n : Node) (c : Circuit) → ContractsCallNothing program → WellNamed program → Contains program (NodeItem n) → IsOf c (drawn_node (told_of program) n) → HasSlots program n c
