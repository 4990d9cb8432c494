-- The places of the slots of a node, and which of its free slots read a controllable variable.
-- Source: own.
use Rattle.std.specs.Prelude.{ℕ, zero, suc, ◌≡◌, ◌<◌, Bool, true, List, [], ◌∷◌, length, reverse}
use Rattle.hp_tree.specs.declared.program.Item.{Item}
use Rattle.hp_tree.specs.Instant.{Assume, Place}
use Rattle.hp_tree.specs.Meaning.{node_among}
use Rattle.hp_tree.specs.Programs.{Node}
use Rattle.hp_circuit.specs.declared.circuit.Role.TheVariants as role
use Rattle.hp_circuit.specs.declared.kind.Kind.TheVariants.{Early}
use Rattle.hp_circuit.specs.Forms.{slot_at}
use Rattle.hp_circuit.specs.Kinds.{kind_of}
use Rattle.hp_circuit.specs.Reading.{edges_of, IsSteered, AreSteered}
use Rattle.hp_meaning.specs.Contract.Forgetting.{ContractsCallNothing}
use Rattle.hp_meaning.specs.Contract.FreePlaces.{IsEarly}
use Rattle.hp_meaning.specs.Contract.Slots as slots
use Rattle.hp_meaning.specs.Contract.Slots.{register, free, input, control, slots_of_node}
use Rattle.hp_drawing.specs.Told.{Told}
use Rattle.hp_drawing.specs.DrawnNodes.{drawn_node}
use Rattle.law_drawing.specs.Steered.Nodes.{Depends, NodeFits}

-- the places of slots, in order; the register of an integer has no slot
abbrev pub laid : List slots.Slot → List Place
laid [] = []
laid (register p slots.truth ∷ ss) = p ∷ laid ss
laid (register p slots.mark ∷ ss) = laid ss
laid (register p (slots.cons t m) ∷ ss) = p ∷ laid ss
laid (free p t ∷ ss) = p ∷ laid ss
laid (input p t ∷ ss) = p ∷ laid ss
laid (control p t ∷ ss) = p ∷ laid ss

abbrev pub place_at : List Place → ℕ → Place
place_at [] i = []
place_at (p ∷ ps) zero = p
place_at (p ∷ ps) (suc i) = place_at ps i

-- the place of a slot by its number
abbrev pub slot_place : List Item → Node → ℕ → Place
slot_place program n i = place_at (laid (slots_of_node program n)) i

-- Where the tables have the nodes of a program, whose contracts call nothing, a free slot of what is drawn of a node has a wire that reads a controllable variable by some chain only where the place of the slot depends on one.
abbrev pub SlotMarksLaw : Type 0
SlotMarksLaw =
    (program : List Item) (t : Told) (n : Node) → ((f : List ℕ) → t.nodes f ≡ node_among (reverse program) f) → ContractsCallNothing program → NodeFits t n
    → let s = drawn_node t n in
    (i : ℕ) → i < length s.slots → (early : Bool) → (slot_at s.slots i).role ≡ role.Free early → IsSteered s.slots (edges_of s.wires s.reads) (slot_at s.slots i).wire → Depends n (slot_place program n i)

-- So no early place has a wire that reads one,
abbrev pub EarlySlotsLaw : Type 0
EarlySlotsLaw =
    (program : List Item) (t : Told) (n : Node) → ((f : List ℕ) → t.nodes f ≡ node_among (reverse program) f) → ContractsCallNothing program → NodeFits t n
    → let s = drawn_node t n in
    (i : ℕ) → i < length s.slots → (early : Bool) → (slot_at s.slots i).role ≡ role.Free early → IsEarly program n (slot_place program n i) → IsSteered s.slots (edges_of s.wires s.reads) (slot_at s.slots i).wire → ⊥

-- and so an early place that may be early by its role is of the early kind in a circuit that knows which wires read one.
abbrev pub EarlyKindsLaw : Type 0
EarlyKindsLaw =
    (program : List Item) (t : Told) (n : Node) → ((f : List ℕ) → t.nodes f ≡ node_among (reverse program) f) → ContractsCallNothing program → NodeFits t n
    → let s = drawn_node t n in
    (steered : List Bool) → AreSteered s.slots (edges_of s.wires s.reads) steered → (i : ℕ) → i < length s.slots → (slot_at s.slots i).role ≡ role.Free true → IsEarly program n (slot_place program n i) → kind_of steered (slot_at s.slots i) ≡ Early

-- The wire of the assumption reads one only where the place of the assumption depends on one.
abbrev pub AssumptionMarksLaw : Type 0
AssumptionMarksLaw =
    (program : List Item) (t : Told) (n : Node) → ((f : List ℕ) → t.nodes f ≡ node_among (reverse program) f) → ContractsCallNothing program → NodeFits t n
    → let s = drawn_node t n in
    IsSteered s.slots (edges_of s.wires s.reads) s.assume → Depends n (Assume ∷ [])
