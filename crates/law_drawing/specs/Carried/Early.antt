-- Which free places of a node a circuit has early, and that these are the early places of the node where its free slots are early as their places are.
use Rattle.std.specs.Prelude.{◌≡◌, ◌↔◌, ⊤, Bool, Contains, true, false, ◌&&◌, ◌||◌, IsTrue, List, [], ◌∷◌}
use Rattle.hp_tree.specs.declared.program.Item.{Item}
use Rattle.hp_tree.specs.Instant.{Place}
use Rattle.hp_tree.specs.declared.program.Item.TheVariants.{NodeItem}
use Rattle.hp_tree.specs.Programs.{Node}
use Rattle.hp_meaning.specs.Causal.RanksOfPoints.{same_place}
use Rattle.hp_meaning.specs.Contract.Forgetting.{ContractsCallNothing}
use Rattle.hp_meaning.specs.Contract.FreePlaces.{IsFree, IsEarly}
use Rattle.hp_meaning.specs.Contract.Slots as slots
use Rattle.hp_meaning.specs.Contract.Slots.{register, free, input, control, free_among, slots_of_node}
use Rattle.hp_circuit.specs.declared.circuit.Circuit.{Circuit}
use Rattle.hp_circuit.specs.declared.circuit.Slot.{Slot}
use Rattle.hp_circuit.specs.declared.kind.Kind.{Kind}
use Rattle.hp_circuit.specs.declared.kind.Kind.TheVariants.{Registers, Early, Control, Late}
use Rattle.hp_circuit.specs.Kinds.{kind_of}
use Rattle.hp_drawing.specs.DrawnNodes.{drawn_node}
use Rattle.hp_drawing.specs.Seen.{IsOf}
use Rattle.hp_drawing.specs.Told.{told_of}
use Rattle.hp_names.specs.Rules.{WellNamed}
use Rattle.law_drawing.specs.Mirroring.Carried.{any_slot}
use Rattle.law_drawing.specs.Mirroring.Codes.{Begins}
use Rattle.law_drawing.specs.Carried.Laws.{AreTold}

abbrev pub is_early : Kind → Bool
is_early Registers = false
is_early Early = true
is_early Control = false
is_early Late = false

abbrev pub begins_early : List Bool → List Slot → Bool
begins_early steered [] = false
begins_early steered (c ∷ cs) = is_early (kind_of steered c)

abbrev pub others : List Slot → List Slot
others [] = []
others (c ∷ cs) = cs

-- whether the circuit has a free place early: one of its free slots is
abbrev pub early_in : List Bool → List slots.Slot → List Slot → Place → Bool
early_in steered [] cs p = false
early_in steered (register q slots.truth ∷ ss) cs p = early_in steered ss (others cs) p
early_in steered (register q slots.mark ∷ ss) cs p = early_in steered ss cs p
early_in steered (register q (slots.cons t m) ∷ ss) cs p = early_in steered ss (others cs) p
early_in steered (free q t ∷ ss) cs p = (same_place q p && begins_early steered cs) || early_in steered ss (others cs) p
early_in steered (input q t ∷ ss) cs p = early_in steered ss (others cs) p
early_in steered (control q t ∷ ss) cs p = early_in steered ss (others cs) p

module _ (program : List Item) (n : Node) where
  -- a free slot is early exactly where its place is
  abbrev pub HasRight : List Bool → Place → Slot → Type 0
  HasRight steered p c = kind_of steered c ≡ Early ↔ IsEarly program n p

  abbrev pub AreRight : List Bool → List slots.Slot → List Slot → Type 0
  AreRight steered [] cs = ⊤
  AreRight steered (register p slots.truth ∷ ss) cs = Begins any_slot (AreRight steered ss) cs
  AreRight steered (register p slots.mark ∷ ss) cs = AreRight steered ss cs
  AreRight steered (register p (slots.cons t m) ∷ ss) cs = Begins any_slot (AreRight steered ss) cs
  AreRight steered (free p t ∷ ss) cs = Begins (HasRight steered p) (AreRight steered ss) cs
  AreRight steered (input p t ∷ ss) cs = Begins any_slot (AreRight steered ss) cs
  AreRight steered (control p t ∷ ss) cs = Begins any_slot (AreRight steered ss) cs

-- So of each free place it is told whether the circuit has it early, and these are the node's early places.
pub record IsRight (program : List Item) (n : Node) (steered : List Bool) (ss : List slots.Slot) (cs : List Slot) : Type 0 where
  pub told : AreTold (early_in steered ss cs) steered ss cs
  pub early : (p : Place) → IsFree (free_among ss) p → IsTrue (early_in steered ss cs p) ↔ IsEarly program n p

-- So it is of the circuit that is drawn of a node in a judged program.
abbrev pub EarlyLaw : Type 0
EarlyLaw =
    (program : List Item) (n : Node) (c : Circuit) → ContractsCallNothing program → WellNamed program → Contains program (NodeItem n) → IsOf c (drawn_node (told_of program) n)
    → (steered : List Bool) → AreRight program n steered (slots_of_node program n) c.slots.items → IsRight program n steered (slots_of_node program n) c.slots.items
