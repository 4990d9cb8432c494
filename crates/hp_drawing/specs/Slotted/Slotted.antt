-- The slots of a node's abstraction, as a circuit holds them.
use Rattle.std.specs.Prelude.{ℕ, if◌then◌else◌, List, [], ◌∷◌, ◌++◌}
use Rattle.hp_tree.specs.Instant.{Place}
use Rattle.hp_tree.specs.Programs.{TypeDecl}
use Rattle.hp_meaning.specs.Contract.Slots as slots
use Rattle.hp_meaning.specs.Contract.Slots.{Slot, shape_of}
use Rattle.hp_circuit.specs.declared.circuit.Shape.{Shape}
use Rattle.hp_circuit.specs.declared.circuit.Shape.TheVariants.{Truth, Cons, Mark}
use Rattle.hp_drawing.specs.Kept.{Kept, register, input, control, free, is_mark}

abbrev pub shape_as : slots.Shape → Shape
shape_as slots.truth = Truth
shape_as slots.mark = Mark
shape_as (slots.cons t m) = Cons m

-- an integer has no register
abbrev pub shaped : (Shape → Kept) → Shape → List Kept
shaped kind s = if is_mark s then [] else kind s ∷ []

-- no input, controllable variable or free place is an integer; `first` has the number that a register holds at first, by its place
abbrev pub slot_as : List TypeDecl → (Place → ℕ) → Slot → List Kept
slot_as types first (slots.register p s) = shaped (register (first p)) (shape_as s)
slot_as types first (slots.free p t) = free (shape_as (shape_of types t)) ∷ []
slot_as types first (slots.input p t) = input (shape_as (shape_of types t)) ∷ []
slot_as types first (slots.control p t) = control (shape_as (shape_of types t)) ∷ []

abbrev pub slots_as : List TypeDecl → (Place → ℕ) → List Slot → List Kept
slots_as types first [] = []
slots_as types first (s ∷ ss) = slot_as types first s ++ slots_as types first ss
