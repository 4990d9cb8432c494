-- A circuit as it is drawn, as plain lists, and what each step of drawing makes of it. A step that makes a wire gives its number, with the sketch behind it.
use Rattle.std.specs.Prelude.{ℕ, zero, suc, Bool, false, if◌then◌else◌, nat_eq, length, List, [], ◌∷◌, ◌++◌, Option, None, Some, slice_get, slice_set}
use Rattle.hp_circuit.specs.declared.circuit.Role.{Role}
use Rattle.hp_circuit.specs.declared.circuit.Role.TheVariants as role
use Rattle.hp_circuit.specs.declared.circuit.Shape.{Shape}
use Rattle.hp_circuit.specs.declared.circuit.Shape.TheVariants.{Truth, Mark}
use Rattle.hp_circuit.specs.declared.circuit.Slot.{Slot}
use Rattle.hp_circuit.specs.declared.circuit.Wire.{Wire}
use Rattle.hp_circuit.specs.declared.circuit.Wire.TheVariants as wire
use Rattle.hp_drawing.specs.declared.parts.Clock.{Clock}
use Rattle.hp_drawing.specs.declared.parts.Value.{Value}

-- the lists of a circuit, and the clocks that it has so far
pub record Sketch : Type 0 where
  pub wires : List Wire
  pub shapes : List Shape
  pub slots : List Slot
  pub reads : List (ℕ × ℕ)
  pub clocks : List Clock
  pub assume : ℕ
  pub hyp : ℕ
  pub duty : ℕ

-- the wires that are always false and true, and the clock that is always there
abbrev pub low : ℕ
low = 0

abbrev pub high : ℕ
high = 1

abbrev pub base : ℕ
base = 0

abbrev pub value : ℕ → Shape → Value
value w p = record { wire = w; shape = p }

abbrev pub truth : ℕ → Value
truth w = value w Truth

-- ---- wires

unfoldable pub next_wire : Sketch → ℕ
next_wire s = length s.wires

unfoldable pub push : Wire → Shape → Sketch → ℕ × Sketch
push w p s = (length s.wires, record s { wires = s.wires ++ w ∷ []; shapes = s.shapes ++ p ∷ [] })

unfoldable pub shape_at : ℕ → Sketch → Option Shape
shape_at w s = slice_get s.shapes w

unfoldable pub write : ℕ → Wire → Sketch → Sketch
write w gives s = record s { wires = slice_set s.wires w gives }

unfoldable pub read : ℕ → ℕ → Sketch → Sketch
read w other s = record s { reads = s.reads ++ (w, other) ∷ [] }

-- a wire reads all that gives it its value
unfoldable pub read_all : ℕ → Wire → Sketch → Sketch
read_all w (wire.Slot i) s = s
read_all w (wire.Constant k) s = s
read_all w (wire.Copy a) s = read w a s
read_all w (wire.Not a) s = read w a s
read_all w (wire.And a b) s = read w b (read w a s)
read_all w (wire.Or a b) s = read w b (read w a s)
read_all w (wire.Xor a b) s = read w b (read w a s)
read_all w (wire.Equal a b) s = read w b (read w a s)
read_all w (wire.Is a k) s = read w a s
read_all w (wire.If t a b) s = read w b (read w a (read w t s))

-- a wire whose value is said later is a copy of itself
abbrev pub is_open : ℕ → Wire → Bool
is_open w (wire.Copy a) = nat_eq a w
is_open w gives = false

abbrev pub set_over : ℕ → Wire → Option Wire → Sketch → Sketch
set_over w gives None s = read_all w gives s
set_over w gives (Some old) s = write w gives (if is_open w old then s else read_all w old s)

-- What gives a wire its value is said. What gave it a value before is read on, so nothing that is read is lost.
unfoldable pub set : ℕ → Wire → Sketch → Sketch
set w gives s = set_over w gives (slice_get s.wires w) s

-- an integer, and one that reads a wire
unfoldable pub mark : Sketch → ℕ × Sketch
mark s = push (wire.Constant 0) Mark s

unfoldable pub mark_of : ℕ → Sketch → ℕ × Sketch
mark_of source s = let m = mark s in (m.0, read m.0 source m.1)

-- a wire whose value is said later
unfoldable pub hole : Shape → Sketch → ℕ × Sketch
hole Mark s = mark s
hole p s = push (wire.Copy (next_wire s)) p s

-- it has the value of another one
abbrev pub define_as : Shape → ℕ → ℕ → Sketch → Sketch
define_as Mark w source s = read w source s
define_as p w source s = set w (wire.Copy source) s

unfoldable pub define : ℕ → Value → Sketch → Sketch
define w source s = define_as source.shape w source.wire s

unfoldable pub copy : Value → Sketch → ℕ × Sketch
copy source s = let h = hole source.shape s in (h.0, define h.0 source h.1)

-- ---- gates that are left out where they are constant

unfoldable pub not_gate : ℕ → Sketch → ℕ × Sketch
not_gate a s = if nat_eq a low then (high, s) else if nat_eq a high then (low, s) else push (wire.Not a) Truth s

unfoldable pub and_gate : ℕ → ℕ → Sketch → ℕ × Sketch
and_gate a b s =
    if nat_eq a low then (low, s) else
    if nat_eq b low then (low, s) else
    if nat_eq a high then (b, s) else
    if nat_eq b high then (a, s) else
    push (wire.And a b) Truth s

unfoldable pub or_gate : ℕ → ℕ → Sketch → ℕ × Sketch
or_gate a b s =
    if nat_eq a high then (high, s) else
    if nat_eq b high then (high, s) else
    if nat_eq a low then (b, s) else
    if nat_eq b low then (a, s) else
    push (wire.Or a b) Truth s

-- the first where the condition holds, else the second
unfoldable pub choose_gate : ℕ → ℕ → ℕ → Shape → Sketch → ℕ × Sketch
choose_gate c a b p s = if nat_eq c low then (b, s) else if nat_eq c high then (a, s) else push (wire.If c a b) p s

-- whether a wire has the constructor of this number
unfoldable pub is_gate : ℕ → ℕ → Sketch → ℕ × Sketch
is_gate w number s = push (wire.Is w number) Truth s

-- ---- slots

abbrev pub with_slot : Slot → Sketch → Sketch
with_slot slot s = record s { slots = s.slots ++ slot ∷ [] }

-- the number of the next slot
unfoldable pub next_slot : Sketch → ℕ
next_slot s = length s.slots

-- a slot, with the wire that carries it
unfoldable pub slot : Role → Shape → Sketch → ℕ × Sketch
slot r p s =
    let w = push (wire.Slot (next_slot s)) p s in
    (w.0, with_slot (record { role = r; shape = p; wire = w.0 }) w.1)

-- something that is given, or an integer
unfoldable pub given : Role → Shape → Sketch → ℕ × Sketch
given r Mark s = mark s
given r p s = slot r p s

-- what a register holds next
abbrev pub next_as : Role → ℕ → Role
next_as (role.Register first old) next = role.Register first next
next_as r next = r

abbrev pub with_next : Slot → ℕ → Slot
with_next slot next = record slot { role = next_as slot.role next }

abbrev pub set_next_at : List Slot → ℕ → ℕ → List Slot
set_next_at [] number next = []
set_next_at (slot ∷ slots) zero next = with_next slot next ∷ slots
set_next_at (slot ∷ slots) (suc n) next = slot ∷ set_next_at slots n next

unfoldable pub set_next : ℕ → ℕ → Sketch → Sketch
set_next number next s = record s { slots = set_next_at s.slots number next }

-- ---- clocks

unfoldable pub add_clock : ℕ → ℕ → Sketch → ℕ × Sketch
add_clock holds outer s = (length s.clocks, record s { clocks = s.clocks ++ record { holds = holds; outer = outer } ∷ [] })

abbrev pub holds_by : Option Clock → ℕ
holds_by None = high
holds_by (Some c) = c.holds

abbrev pub outer_by : Option Clock → ℕ
outer_by None = base
outer_by (Some c) = c.outer

-- the wire that says whether a clock holds, and the clock without its innermost step
unfoldable pub holds : ℕ → Sketch → ℕ
holds clock s = holds_by (slice_get s.clocks clock)

unfoldable pub outer_clock : ℕ → Sketch → ℕ
outer_clock clock s = outer_by (slice_get s.clocks clock)

-- the clock with one step more
unfoldable pub inner_clock : ℕ → ℕ → Sketch → ℕ × Sketch
inner_clock clock step s = let h = and_gate (holds clock s) step s in add_clock h.0 clock h.1

-- ---- contracts

unfoldable pub with_hyp : ℕ → Sketch → Sketch
with_hyp w s = record s { hyp = w }

unfoldable pub with_duty : ℕ → Sketch → Sketch
with_duty w s = record s { duty = w }

unfoldable pub with_assume : ℕ → Sketch → Sketch
with_assume w s = record s { assume = w }

unfoldable pub hyp_of : Sketch → ℕ
hyp_of s = s.hyp

unfoldable pub duty_of : Sketch → ℕ
duty_of s = s.duty

abbrev pub with_hyp_drawn : ℕ × Sketch → Sketch
with_hyp_drawn d = with_hyp d.0 d.1

abbrev pub with_duty_drawn : ℕ × Sketch → Sketch
with_duty_drawn d = with_duty d.0 d.1

-- what may be supposed, and what is owed, besides what may be supposed and is owed so far
unfoldable pub add_told : ℕ → ℕ → Sketch → Sketch
add_told supposed owed s =
    let h = with_hyp_drawn (and_gate (hyp_of s) supposed s) in
    with_duty_drawn (and_gate (duty_of h) owed h)

-- where a call is there, its contract may be supposed to be kept, and what it assumes is owed
unfoldable pub add_call : ℕ → ℕ → ℕ → Sketch → Sketch
add_call here assume enforce s =
    let away = not_gate here s in
    let unassumed = not_gate assume away.1 in
    let kept = or_gate unassumed.0 enforce unassumed.1 in
    let supposed = or_gate away.0 kept.0 kept.1 in
    let owed = or_gate away.0 assume supposed.1 in
    add_told supposed.0 owed.0 owed.1

-- what is assumed, and what holds besides what is supposed and owed of calls
unfoldable pub finish : ℕ → ℕ → Sketch → Sketch
finish assume enforce s =
    let a = with_assume assume s in
    let h = with_hyp_drawn (and_gate assume (hyp_of a) a) in
    with_duty_drawn (and_gate enforce (duty_of h) h)

-- the two constant wires, and the clock that is always there
unfoldable pub nothing : Sketch
nothing = record { wires = []; shapes = []; slots = []; reads = []; clocks = []; assume = high; hyp = high; duty = high }

unfoldable pub begun : Sketch → Sketch
begun s =
    let no_wire = push (wire.Constant 0) Truth s in
    let yes_wire = push (wire.Constant 1) Truth no_wire.1 in
    let clock = add_clock high base yes_wire.1 in
    clock.1

unfoldable pub empty : Sketch
empty = begun nothing
