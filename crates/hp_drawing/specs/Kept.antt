-- What the slots of a circuit are, but for its wires.
use Rattle.std.specs.Prelude.{ℕ, Bool, true, false, if◌then◌else◌, List, [], ◌∷◌, ◌++◌, map}
use Rattle.hp_circuit.specs.declared.circuit.Role.{Role}
use Rattle.hp_circuit.specs.declared.circuit.Role.TheVariants as role
use Rattle.hp_circuit.specs.declared.circuit.Shape.{Shape}
use Rattle.hp_circuit.specs.declared.circuit.Shape.TheVariants.{Truth, Cons, Mark}
use Rattle.hp_circuit.specs.declared.circuit.Slot.{Slot}

-- a register with the number that it holds at first, an input, a controllable variable, or a free value
pub data Kept : Type 0 where
  register : ℕ → Shape → Kept
  input control free : Shape → Kept

abbrev pub kept_as : Role → Shape → Kept
kept_as (role.Register first next) shape = register first shape
kept_as role.Input shape = input shape
kept_as role.Control shape = control shape
kept_as (role.Free early) shape = free shape

abbrev pub kept_of : Slot → Kept
kept_of slot = kept_as slot.role slot.shape

abbrev pub kept_slots : List Slot → List Kept
kept_slots slots = map kept_of slots

abbrev pub is_mark : Shape → Bool
is_mark Truth = false
is_mark (Cons count) = false
is_mark Mark = true

-- one more behind others
unfoldable pub with_kept : List Kept → Kept → List Kept
with_kept before k = before ++ k ∷ []

-- one more of this shape; of an integer there is none
abbrev pub with_shaped : (Shape → Kept) → Shape → List Kept → List Kept
with_shaped kind shape before = if is_mark shape then before else with_kept before (kind shape)
