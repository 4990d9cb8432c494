-- How the gates of wires are made: words for the contracts of private functions.
use Rattle.std.specs.Prelude.{ℕ, ◌<◌, ◌≤◌, ◌+◌, ◌≡◌, ⊤, not, ◌&&◌, ◌||◌, if◌then◌else◌, List, [], ◌∷◌, length, slice_index_or, Option, Some, None}
use Rattle.hp_boolx.specs.declared.gate.Gate.{Gate}
use Rattle.hp_boolx.specs.Search.{Bits}
use Rattle.hp_boolx.specs.Machine.{AreFit}
use Rattle.hp_circuit.specs.declared.circuit.Shape.{Shape}
use Rattle.hp_circuit.specs.declared.circuit.Slot.{Slot}
use Rattle.hp_circuit.specs.declared.circuit.Wire.{Wire}
use Rattle.hp_circuit.specs.declared.circuit.Wire.TheVariants as wire
use Rattle.hp_circuit.specs.Numbers.{pow2, to_bits, number, are_same, compared}
use Rattle.hp_circuit.specs.Shapes.{shape_width}
use Rattle.hp_circuit.specs.Forms.{shape_at, slot_at, wire_at}
use Rattle.hp_circuit.specs.Meaning.{wire_value, Solves}
use Rattle.hp_circuit.specs.Adding.{at, row, word, HasFirst, Keeps}

-- the first gate of a wire, if it has gates
abbrev pub start_at : List (Option ℕ) → ℕ → Option ℕ
start_at starts w = slice_index_or starts w None

abbrev pub or_zero : Option ℕ → ℕ
or_zero None = 0
or_zero (Some s) = s

-- what a wire reads, under other numbers
abbrev pub moved : (ℕ → ℕ) → Wire → Wire
moved f (wire.Slot i) = wire.Slot i
moved f (wire.Constant k) = wire.Constant k
moved f (wire.Copy a) = wire.Copy (f a)
moved f (wire.Not a) = wire.Not (f a)
moved f (wire.And a b) = wire.And (f a) (f b)
moved f (wire.Or a b) = wire.Or (f a) (f b)
moved f (wire.Xor a b) = wire.Xor (f a) (f b)
moved f (wire.Equal a b) = wire.Equal (f a) (f b)
moved f (wire.Is a k) = wire.Is (f a) k
moved f (wire.If t a b) = wire.If (f t) (f a) (f b)

-- what holds of all that a wire reads
abbrev pub AtReads : (ℕ → Type 0) → Wire → Type 0
AtReads P (wire.Slot i) = ⊤
AtReads P (wire.Constant k) = ⊤
AtReads P (wire.Copy a) = P a
AtReads P (wire.Not a) = P a
AtReads P (wire.And a b) = P a × P b
AtReads P (wire.Or a b) = P a × P b
AtReads P (wire.Xor a b) = P a × P b
AtReads P (wire.Equal a b) = P a × P b
AtReads P (wire.Is a k) = P a
AtReads P (wire.If t a b) = P t × P a × P b

-- the wire has gates
abbrev pub IsMade : List (Option ℕ) → ℕ → Type 0
IsMade starts a = (s : ℕ) × (start_at starts a ≡ Some s)

-- how wide the numbers are that a wire compares
abbrev pub compared_width : List Shape → Wire → ℕ
compared_width shapes (wire.Equal a b) = shape_width (shape_at shapes a)
compared_width shapes (wire.Is a k) = shape_width (shape_at shapes a)
compared_width shapes w = 0

abbrev pub place_at : List ℕ → ℕ → ℕ
place_at places i = slice_index_or places i 0

-- the bits of a wire that reads gates: its width, and that of the numbers that it compares
abbrev pub wire_bits : List ℕ → List Gate → Bits → ℕ → ℕ → Wire → Bits
wire_bits places gates v width many (wire.Slot i) = row v (place_at places i) width
wire_bits places gates v width many (wire.Constant k) = to_bits width k
wire_bits places gates v width many (wire.Copy a) = word gates v a width
wire_bits places gates v width many (wire.Not a) = not (at gates v a) ∷ []
wire_bits places gates v width many (wire.And a b) = (at gates v a && at gates v b) ∷ []
wire_bits places gates v width many (wire.Or a b) = (at gates v a || at gates v b) ∷ []
wire_bits places gates v width many (wire.Xor a b) = (if at gates v a then not (at gates v b) else at gates v b) ∷ []
wire_bits places gates v width many (wire.Equal a b) = are_same (word gates v a many) (word gates v b many) ∷ []
wire_bits places gates v width many (wire.Is a k) = compared (at gates v 0) (at gates v 1) (word gates v a many) (to_bits many k) ∷ []
wire_bits places gates v width many (wire.If t a b) = if at gates v t then word gates v a width else word gates v b width

-- the variables that a wire's gates name are below this number
abbrev pub named_by : List ℕ → ℕ → Wire → ℕ
named_by places width (wire.Slot i) = place_at places i + width
named_by places width (wire.Constant k) = 0
named_by places width (wire.Copy a) = 0
named_by places width (wire.Not a) = 0
named_by places width (wire.And a b) = 0
named_by places width (wire.Or a b) = 0
named_by places width (wire.Xor a b) = 0
named_by places width (wire.Equal a b) = 0
named_by places width (wire.Is a k) = 0
named_by places width (wire.If t a b) = 0

-- the gates that a wire reads are there
abbrev pub AreThere : List ℕ → ℕ → ℕ → ℕ → Wire → Type 0
AreThere places count width many (wire.Slot i) = (i < length places) × (place_at places i + width ≤ 65535)
AreThere places count width many (wire.Constant k) = k < pow2 width
AreThere places count width many (wire.Copy a) = a + width ≤ count
AreThere places count width many (wire.Not a) = (width ≡ 1) × (a < count)
AreThere places count width many (wire.And a b) = (width ≡ 1) × (a < count) × (b < count)
AreThere places count width many (wire.Or a b) = (width ≡ 1) × (a < count) × (b < count)
AreThere places count width many (wire.Xor a b) = (width ≡ 1) × (a < count) × (b < count)
AreThere places count width many (wire.Equal a b) = (width ≡ 1) × (a + many ≤ count) × (b + many ≤ count)
AreThere places count width many (wire.Is a k) = (width ≡ 1) × (a + many ≤ count) × (many ≤ 64)
AreThere places count width many (wire.If t a b) = (t < count) × (a + width ≤ count) × (b + width ≤ count)

-- the number of a slot, and that of a wire that has gates
abbrev pub slot_number : List Slot → List ℕ → Bits → ℕ → ℕ
slot_number slots places v i = number (row v (place_at places i) (shape_width (slot_at slots i).shape))

abbrev pub wire_number : List Shape → List Gate → List (Option ℕ) → Bits → ℕ → ℕ
wire_number shapes gates starts v w = number (word gates v (or_zero (start_at starts w)) (shape_width (shape_at shapes w)))

-- all variables of slots are below a number
abbrev pub AreBelow : List Slot → List ℕ → ℕ → Type 0
AreBelow slots places all = (i : ℕ) → i < length slots → place_at places i + shape_width (slot_at slots i).shape ≤ all

module _ (slots : List Slot) (wires : List Wire) (shapes : List Shape) (places : List ℕ) where
  -- each slot has its variables
  abbrev pub ArePlaced : Type 0
  ArePlaced = (length places ≡ length slots) × ((i : ℕ) → i < length slots → place_at places i + shape_width (slot_at slots i).shape ≤ 65535)

  -- the gates that are made have the numbers of their wires, whatever the others have
  pub record Stands (gates : List Gate) (starts : List (Option ℕ)) : Type 0 where
    pub first : HasFirst gates
    pub fit : (all : ℕ) → AreBelow slots places all → AreFit all 0 gates
    pub many : length starts ≡ length wires
    pub there : (w s : ℕ) → start_at starts w ≡ Some s → s + shape_width (shape_at shapes w) ≤ length gates
    pub reads : (w s : ℕ) → start_at starts w ≡ Some s → AtReads (IsMade starts) (wire_at wires w)
    pub solved : (v : Bits) (w s : ℕ) → start_at starts w ≡ Some s → wire_number shapes gates starts v w ≡ wire_value (slot_number slots places v) (wire_number shapes gates starts v) (wire_at wires w)
    pub only : (v : Bits) (numbers : ℕ → ℕ) → Solves wires (slot_number slots places v) numbers → (w s : ℕ) → start_at starts w ≡ Some s → numbers w ≡ wire_number shapes gates starts v w

  -- The gates of a wire are made, of those that it reads.
  pub record Makes (starts : List (Option ℕ)) (old new : List Gate) (w r : ℕ) : Type 0 where
    pub keeps : Keeps old new
    pub fit : (all : ℕ) → AreBelow slots places all → AreFit all 0 old → AreFit all 0 new
    pub there : r + shape_width (shape_at shapes w) ≤ length new
    pub reads : AtReads (IsMade starts) (wire_at wires w)
    pub value : (v : Bits) → number (word new v r (shape_width (shape_at shapes w))) ≡ wire_value (slot_number slots places v) (wire_number shapes old starts v) (wire_at wires w)
