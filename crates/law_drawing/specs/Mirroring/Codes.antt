-- The codes of a memory and of what is given, one for each slot of a node, and when a circuit has the slots of a node.
-- Source: own. It says which variables of the machine of a circuit hold what a node remembers and is given.
use Rattle.std.specs.Prelude.{ℕ, ◌<◌, ◌≡◌, ◌↔◌, ⊤, Bool, IsTrue, if◌then◌else◌, List, [], ◌∷◌, length, slice_index_or}
use Rattle.hp_base.specs.declared.ty.Ty.{Ty}
use Rattle.hp_base.specs.declared.ty.Ty.TheVariants as ty
use Rattle.hp_base.specs.declared.value.Value.{Value}
use Rattle.hp_base.specs.declared.value.Value.TheVariants.{B, E}
use Rattle.hp_tree.specs.Instant.{Place, Instant}
use Rattle.hp_tree.specs.Programs.{TypeDecl}
use Rattle.hp_tree.specs.Values.{constructors_of, IsOf}
use Rattle.hp_boolx.specs.Search.{Bits}
use Rattle.hp_circuit.specs.declared.circuit.Shape.{Shape}
use Rattle.hp_circuit.specs.declared.circuit.Shape.TheVariants.{Truth, Cons}
use Rattle.hp_circuit.specs.declared.circuit.Slot.{Slot}
use Rattle.hp_circuit.specs.declared.kind.Kind.{Kind}
use Rattle.hp_circuit.specs.declared.kind.Kind.TheVariants.{Registers, Early, Control, Late}
use Rattle.hp_circuit.specs.Kinds.{kind_of}
use Rattle.hp_circuit.specs.Machines.{joined, slot_next}
use Rattle.hp_circuit.specs.Numbers.{number}
use Rattle.hp_meaning.specs.Contract.Codes.{width, to_bits, code}
use Rattle.hp_meaning.specs.Contract.Memory.{number_in, bits_in}
use Rattle.hp_meaning.specs.Contract.Slots as slots
use Rattle.hp_meaning.specs.Contract.Slots.{register, free, input, control, shape_of, registers_among}
use Rattle.law_games.specs.Mirror.Mirrored.{codes_at, AreCodes, early_among, controls_among, late_among}
use Rattle.hp_circuit.specs.Placed.Valuations.{AreWide, code_at, codes_of, are_values}
use Rattle.law_drawing.specs.Carrying.Drawing.{AreHeld, AreLaid}
use Rattle.hp_drawing.specs.Slotted.Slotted.{shape_as}

-- the first slot, and the others
abbrev pub Begins : (Slot → Type 0) → (List Slot → Type 0) → List Slot → Type 0
Begins this others [] = ⊥
Begins this others (c ∷ cs) = this c × others cs

module _ (types : List TypeDecl) (early : Place → Bool) where
  -- the kind of a free place
  abbrev pub free_kind : Place → Kind
  free_kind p = if early p then Early else Late

  module _ (steered : List Bool) where
    abbrev pub IsSlot : Kind → Shape → Slot → Type 0
    IsSlot kind shape c = (kind_of steered c ≡ kind) × (c.shape ≡ shape)

    -- A circuit has the slots of a node, in order; an integer has none.
    abbrev pub AreSlotsOf : List slots.Slot → List Slot → Type 0
    AreSlotsOf [] cs = cs ≡ []
    AreSlotsOf (register p slots.truth ∷ ss) cs = Begins (IsSlot Registers Truth) (AreSlotsOf ss) cs
    AreSlotsOf (register p slots.mark ∷ ss) cs = AreSlotsOf ss cs
    AreSlotsOf (register p (slots.cons t m) ∷ ss) cs = Begins (IsSlot Registers (Cons m)) (AreSlotsOf ss) cs
    AreSlotsOf (free p t ∷ ss) cs = Begins (IsSlot (free_kind p) (shape_as (shape_of types t))) (AreSlotsOf ss) cs
    AreSlotsOf (input p t ∷ ss) cs = Begins (IsSlot Early (shape_as (shape_of types t))) (AreSlotsOf ss) cs
    AreSlotsOf (control p t ∷ ss) cs = Begins (IsSlot Control (shape_as (shape_of types t))) (AreSlotsOf ss) cs

-- the codes of a memory and of what is given
abbrev pub codes_for : List TypeDecl → Instant → Instant → List slots.Slot → List Bits
codes_for types memory given [] = []
codes_for types memory given (register p slots.truth ∷ ss) = to_bits 1 (number_in (memory p)) ∷ codes_for types memory given ss
codes_for types memory given (register p slots.mark ∷ ss) = codes_for types memory given ss
codes_for types memory given (register p (slots.cons t m) ∷ ss) = to_bits (width m) (number_in (memory p)) ∷ codes_for types memory given ss
codes_for types memory given (free p t ∷ ss) = code types t (given p) ∷ codes_for types memory given ss
codes_for types memory given (input p t ∷ ss) = code types t (given p) ∷ codes_for types memory given ss
codes_for types memory given (control p t ∷ ss) = code types t (given p) ∷ codes_for types memory given ss

-- a truth value, and the number of one of so many
abbrev pub IsTruth : Value → Type 0
IsTruth (B b) = ⊤
IsTruth v = ⊥

abbrev pub IsBelow : ℕ → Value → Type 0
IsBelow m (E t k) = k < m
IsBelow m v = ⊥

-- a truth value, or a constructor by its number; no integer is given
abbrev pub IsGiven : List TypeDecl → Ty → Value → Type 0
IsGiven types ty.Bool v = IsTruth v
IsGiven types ty.Int v = ⊥
IsGiven types (ty.Enum t) v = IsBelow (length (constructors_of types t)) v

-- Registers hold values of their shapes, and what is given is of its types.
abbrev pub AreInShape : List TypeDecl → Instant → Instant → List slots.Slot → Type 0
AreInShape types memory given [] = ⊤
AreInShape types memory given (register p slots.truth ∷ ss) = IsTruth (memory p) × AreInShape types memory given ss
AreInShape types memory given (register p slots.mark ∷ ss) = AreInShape types memory given ss
AreInShape types memory given (register p (slots.cons t m) ∷ ss) = IsBelow m (memory p) × AreInShape types memory given ss
AreInShape types memory given (free p t ∷ ss) = IsGiven types t (given p) × AreInShape types memory given ss
AreInShape types memory given (input p t ∷ ss) = IsGiven types t (given p) × AreInShape types memory given ss
AreInShape types memory given (control p t ∷ ss) = IsGiven types t (given p) × AreInShape types memory given ss

-- ---- the laws

-- Such codes are as wide as the slots of the circuit.
abbrev pub WideLaw : Type 0
WideLaw =
    (types : List TypeDecl) (early : Place → Bool) (steered : List Bool) (memory given : Instant) (ss : List slots.Slot) (cs : List Slot) → AreSlotsOf types early steered ss cs
    → AreWide cs (codes_for types memory given ss)

-- The codes of the slots of a kind are the bits of the memory, and the codes of what is given early, chosen, and given late.
pub record AreKinds (types : List TypeDecl) (early : Place → Bool) (steered : List Bool) (memory given : Instant) (ss : List slots.Slot) (cs : List Slot) : Type 0 where
  pub registers : codes_of steered Registers cs (codes_for types memory given ss) ≡ bits_in (registers_among ss) memory
  pub early_ones : codes_of steered Early cs (codes_for types memory given ss) ≡ codes_at types (early_among early ss) given
  pub controls : codes_of steered Control cs (codes_for types memory given ss) ≡ codes_at types (controls_among ss) given
  pub late_ones : codes_of steered Late cs (codes_for types memory given ss) ≡ codes_at types (late_among early ss) given

abbrev pub KindsLaw : Type 0
KindsLaw =
    (types : List TypeDecl) (early : Place → Bool) (steered : List Bool) (memory given : Instant) (ss : List slots.Slot) (cs : List Slot) → AreSlotsOf types early steered ss cs
    → AreKinds types early steered memory given ss cs

-- The slots have the numbers of the memory and of what is given.
abbrev pub HeldLaw : Type 0
HeldLaw =
    (types : List TypeDecl) (memory given : Instant) (ss : List slots.Slot) → AreInShape types memory given ss
    → AreHeld (λ i. number (code_at (codes_for types memory given ss) i)) memory given ss 0

-- What registers take next is the bits of the next memory.
abbrev pub NextLaw : Type 0
NextLaw =
    (types : List TypeDecl) (early : Place → Bool) (steered : List Bool) (numbers : List ℕ) (next : Instant) (ss : List slots.Slot) (cs : List Slot) → AreSlotsOf types early steered ss cs → AreLaid numbers next ss cs
    → joined (slot_next (λ w. slice_index_or numbers w 0)) cs ≡ bits_in (registers_among ss) next

-- ---- valid codes

-- The constructors of each enumeration are numbered from 0 on: each number below their count is that of a value of the type, and no other one is.
pub record AreNumbered (types : List TypeDecl) : Type 0 where
  pub each : (t : List ℕ) (k : ℕ) → k < length (constructors_of types t) → (u : ℕ) × IsOf types (ty.Enum t) (E u k)
  pub below : (t : List ℕ) (v : Value) → IsOf types (ty.Enum t) v → IsBelow (length (constructors_of types t)) v

-- The bits of each kind of given places are codes of values of their types.
pub record AreCodesOf (types : List TypeDecl) (early : Place → Bool) (ss : List slots.Slot) (u c w : Bits) : Type 0 where
  pub early_ones : AreCodes types (early_among early ss) u
  pub controls : AreCodes types (controls_among ss) c
  pub late_ones : AreCodes types (late_among early ss) w

-- Codes that are given spell values of their slots exactly where they are codes of values of the node's places.
abbrev pub ValidLaw : Type 0
ValidLaw =
    (types : List TypeDecl) (early : Place → Bool) (steered : List Bool) (ss : List slots.Slot) (cs : List Slot) (codes : List Bits) → AreNumbered types → AreSlotsOf types early steered ss cs → AreWide cs codes
    → IsTrue (are_values cs codes) ↔ AreCodesOf types early ss (codes_of steered Early cs codes) (codes_of steered Control cs codes) (codes_of steered Late cs codes)
