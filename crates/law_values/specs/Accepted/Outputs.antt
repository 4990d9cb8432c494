-- What values that fit give to those who read them.
use Rattle.std.specs.Prelude.{◌≡◌, ℕ, Bool, true, false, IsTrue, List, [], ◌∷◌}
use Rattle.hp_base.specs.declared.ty.Ty.{Ty}
use Rattle.hp_base.specs.declared.value.Value.{Value}
use Rattle.hp_base.specs.declared.value.Value.TheVariants.{Absent, Nil}
use Rattle.hp_tree.specs.Programs.{TypeDecl, Node}
use Rattle.hp_tree.specs.Instant.{Named, Instant}
use Rattle.hp_tree.specs.Meaning.{declares, controls_of}
use Rattle.hp_tree.specs.Values.{IsOf}

-- neither Nil nor Absent
abbrev pub IsHere : Value → Type 0
IsHere v = (v ≡ Nil → ⊥) × (v ≡ Absent → ⊥)

-- Each output of a node has a value at an instant.
abbrev pub OutputsHere : Node → Instant → Type 0
OutputsHere n i = (x : List ℕ) → IsTrue (declares n.outputs x) → IsHere (i (Named x ∷ []))

-- A value is of a type where its clock is there, and Absent where it is not.
abbrev pub AbsentOrOf : List TypeDecl → Bool → Ty → Value → Type 0
AbsentOrOf types true t v = IsOf types t v
AbsentOrOf types false t v = v ≡ Absent

-- A node has no controllable variables.
abbrev pub Uncontrolled : Node → Type 0
Uncontrolled n = controls_of n.contract ≡ []
