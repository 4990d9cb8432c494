-- Which gates are made of a circuit: one list, which the circuit determines.
-- Source: own; each bit of a wire has a gate, after Tseitin (1968). What is known by the constants is not made, as in and-inverter graphs (Kuehlmann et al., 2002).
use Rattle.std.specs.Prelude.{ℕ, zero, suc, ◌+◌, ◌==◌, ◌||◌, nat_eq, nat_le, Bool, true, false, if◌then◌else◌, List, [], ◌∷◌, ◌++◌, length, map, replicate, slice_set, Option, Some, None}
use Rattle.hp_boolx.specs.declared.gate.Gate.{Gate}
use Rattle.hp_boolx.specs.declared.gate.Gate.TheVariants.{Const, Var, Not, And, Or, Xor, Ite}
use Rattle.hp_boolx.specs.Search.{Bits}
use Rattle.hp_circuit.specs.declared.circuit.Circuit.{Circuit}
use Rattle.hp_circuit.specs.declared.circuit.Role.{Role}
use Rattle.hp_circuit.specs.declared.circuit.Role.TheVariants as role
use Rattle.hp_circuit.specs.declared.circuit.Shape.{Shape}
use Rattle.hp_circuit.specs.declared.circuit.Shape.TheVariants.{Truth, Cons, Mark}
use Rattle.hp_circuit.specs.declared.circuit.Slot.{Slot}
use Rattle.hp_circuit.specs.declared.circuit.Wire.{Wire}
use Rattle.hp_circuit.specs.declared.circuit.Wire.TheVariants as wire
use Rattle.hp_circuit.specs.Forms.{shape_at, wire_at}
use Rattle.hp_circuit.specs.Making.{compared_width, moved, or_zero, place_at, start_at}
use Rattle.hp_circuit.specs.Numbers.{pow2, to_bits, width}
use Rattle.hp_circuit.specs.Shapes.{shape_width}

-- gates, and the number of one of them
abbrev pub Numbered : Type 0
Numbered = List Gate × ℕ

-- ---- one bit: the first gate is false and the second true, and what these decide is not made

abbrev pub with_gate : List Gate → Gate → Numbered
with_gate gates g = (gates ++ g ∷ [], length gates)

abbrev pub with_not : List Gate → ℕ → Numbered
with_not gates a = if a == 0 then (gates, 1) else if a == 1 then (gates, 0) else with_gate gates (Not a)

abbrev pub with_and : List Gate → ℕ → ℕ → Numbered
with_and gates a b = if a == 0 || b == 0 then (gates, 0) else if a == 1 then (gates, b) else if b == 1 then (gates, a) else with_gate gates (And a b)

abbrev pub with_or : List Gate → ℕ → ℕ → Numbered
with_or gates a b = if a == 1 || b == 1 then (gates, 1) else if a == 0 then (gates, b) else if b == 0 then (gates, a) else with_gate gates (Or a b)

abbrev pub with_xor : List Gate → ℕ → ℕ → Numbered
with_xor gates a b = if a == 0 then (gates, b) else if b == 0 then (gates, a) else with_gate gates (Xor a b)

abbrev pub with_ite : List Gate → ℕ → ℕ → ℕ → Numbered
with_ite gates t a b = if t == 0 then (gates, b) else if t == 1 then (gates, a) else with_gate gates (Ite t a b)

-- ---- numbers, the most significant bit first

-- gates behind others, and the first of them
abbrev pub with_gates : List Gate → List Gate → Numbered
with_gates gates more = (gates ++ more, length gates)

-- so many variables from a place on
abbrev pub variable_gates : ℕ → ℕ → List Gate
variable_gates place zero = []
variable_gates place (suc width) = Var place ∷ variable_gates (place + 1) width

abbrev pub constant_gates : Bits → List Gate
constant_gates bits = map (λ b. Const b) bits

-- a number in bits; one bit is there already
abbrev pub with_constant : List Gate → ℕ → ℕ → Numbered
with_constant gates width k = if nat_le width 1 then (gates, k) else with_gates gates (constant_gates (to_bits width k))

-- bit by bit, of two numbers the first where the test holds, else the second
abbrev pub choice_gates : ℕ → ℕ → ℕ → ℕ → List Gate
choice_gates t a b zero = []
choice_gates t a b (suc width) = Ite t a b ∷ choice_gates t (a + 1) (b + 1) width

abbrev pub with_choice : List Gate → ℕ → ℕ → ℕ → ℕ → Numbered
with_choice gates t a b width = if t == 0 then (gates, b) else if t == 1 then (gates, a) else with_gates gates (choice_gates t a b width)

-- two bits are the same, and what is found of those behind them
abbrev pub with_same_bit : ℕ → ℕ → Numbered → Numbered
with_same_bit a b found = let differs = with_xor found.0 a b in with_ite differs.0 differs.1 0 found.1

-- two numbers are the same
abbrev pub with_same : List Gate → ℕ → ℕ → ℕ → Numbered
with_same gates a b zero = (gates, 1)
with_same gates a b (suc width) = with_same_bit a b (with_same gates (a + 1) (b + 1) width)

-- a bit is compared with a given one, where `less` is found if it is below
abbrev pub with_compared_bit : ℕ → Bool → ℕ → Numbered → Numbered
with_compared_bit a bit less found = if bit then with_ite found.0 a found.1 less else with_ite found.0 a 0 found.1

-- a number is compared with given bits
abbrev pub with_compared : List Gate → ℕ → Bits → ℕ → ℕ → Numbered
with_compared gates a [] less equal = (gates, equal)
with_compared gates a (bit ∷ bits) less equal = with_compared_bit a bit less (with_compared gates (a + 1) bits less equal)

-- ---- wires

-- a wire that reads gates: its width, and that of the numbers that it compares
abbrev pub with_wire : List ℕ → List Gate → ℕ → ℕ → Wire → Numbered
with_wire places gates width many (wire.Slot i) = with_gates gates (variable_gates (place_at places i) width)
with_wire places gates width many (wire.Constant k) = with_constant gates width k
with_wire places gates width many (wire.Copy a) = (gates, a)
with_wire places gates width many (wire.Not a) = with_not gates a
with_wire places gates width many (wire.And a b) = with_and gates a b
with_wire places gates width many (wire.Or a b) = with_or gates a b
with_wire places gates width many (wire.Xor a b) = with_xor gates a b
with_wire places gates width many (wire.Equal a b) = with_same gates a b many
with_wire places gates width many (wire.Is a k) = with_compared gates a (to_bits many k) 0 1
with_wire places gates width many (wire.If t a b) = with_choice gates t a b width

-- gates, and the first gate of each wire that has some
pub record Wired : Type 0 where
  pub gates : List Gate
  pub starts : List (Option ℕ)

module _ (wires : List Wire) (shapes : List Shape) (places : List ℕ) where
  -- the gates of a wire, behind those of the wires that it reads
  abbrev pub wire_made : Wired → ℕ → Numbered
  wire_made w i = with_wire places w.gates (shape_width (shape_at shapes i)) (compared_width shapes (wire_at wires i)) (moved (λ a. or_zero (start_at w.starts a)) (wire_at wires i))

  abbrev pub with_next : Wired → ℕ → Wired
  with_next w i = record { gates = (wire_made w i).0; starts = slice_set w.starts i (Some (wire_made w i).1) }

  -- those of wires in an order, each with its level
  abbrev pub with_all : Wired → List (ℕ × ℕ) → Wired
  with_all w [] = w
  with_all w (p ∷ order) = with_all (with_next w p.1) order

-- ---- valid codes

-- a code is below a count
abbrev pub with_below : List Gate → ℕ → ℕ → Numbered
with_below gates count start = if nat_eq (pow2 (width count)) count then (gates, 1) else with_compared gates start (to_bits (width count) count) 1 0

abbrev pub with_valid_shape : List Gate → Shape → ℕ → Numbered
with_valid_shape gates Truth start = (gates, 1)
with_valid_shape gates (Cons count) start = with_below gates count start
with_valid_shape gates Mark start = (gates, 1)

-- the code of a slot is a value; a register's is not asked
abbrev pub with_valid_role : List Gate → Role → Shape → ℕ → Numbered
with_valid_role gates (role.Register first next) shape start = (gates, 1)
with_valid_role gates role.Input shape start = with_valid_shape gates shape start
with_valid_role gates role.Control shape start = with_valid_shape gates shape start
with_valid_role gates (role.Free early) shape start = with_valid_shape gates shape start

-- and so are those of all slots, where wires have these first gates
abbrev pub with_valid : List ℕ → Numbered → List Slot → Numbered
with_valid starts found [] = found
with_valid starts found (slot ∷ slots) =
    let one = with_valid_role found.0 slot.role slot.shape (place_at starts slot.wire) in
    with_valid starts (with_and one.0 found.1 one.1) slots

-- ---- a circuit

-- no wire has gates yet
abbrev pub unwired : ℕ → Wired
unwired many = record { gates = Const false ∷ Const true ∷ []; starts = replicate many None }

-- all wires have gates
abbrev pub wired : Circuit → List ℕ → List (ℕ × ℕ) → Wired
wired c places order = with_all c.wires.items c.shapes.items places (unwired (length c.wires.items)) order

-- the first gate of each wire; 0 where it has none
abbrev pub starts_of : Wired → List ℕ
starts_of w = map or_zero w.starts

-- all gates, and that which says that codes are values
abbrev pub gates_of : Circuit → Wired → Numbered
gates_of c w = with_valid (starts_of w) (w.gates, 1) c.slots.items
