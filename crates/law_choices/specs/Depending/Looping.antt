-- The flat equations of a node in which some inputs read themselves, so that the chains of reads from a name end exactly where none leads to such an input.
use Rattle.std.specs.Prelude.{ℕ, Bool, if◌then◌else◌, List, [], ◌∷◌, None, Some}
use Rattle.hp_base.specs.declared.value.Value.{Value}
use Rattle.hp_tree.specs.Programs.{TypeDecl, Node}
use Rattle.hp_tree.specs.Instant.{Place}
use Rattle.law_equations.specs.Flattened.Flat.{Flat}
use Rattle.law_equations.specs.Flattened.Flatten.{FlatName, Input, always, copies, flatten}

abbrev pub looped : List TypeDecl → (List ℕ → List (List ℕ)) → (Place → Value) → Node → (List ℕ → Bool) → Flat FlatName
looped types outputs fill n loops (Input z) = if loops z then Some (copies always [] (Input z) ∷ []) else None
looped types outputs fill n loops a = flatten types outputs fill n a
