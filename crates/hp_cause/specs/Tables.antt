-- What tables hold of names, as functions of them.
use Rattle.std.specs.Prelude.{ℕ, zero, suc, Bool, is_some, if◌then◌else◌, List, [], ◌∷◌, Option, None, Some, option_map}
use Rattle.std.specs.Str.{bytes_eq}
use Rattle.indexmap.specs.IndexMap.{get_by}
use Rattle.hp_tree.specs.declared.decl.Cons.{Cons}
use Rattle.hp_tree.specs.Blocks.{Decl}
use Rattle.hp_tables.specs.declared.defining.layer.Layer.{Layer}
use Rattle.hp_tables.specs.Defining.Layers.{numbered}
use Rattle.hp_cause.specs.Gathering.{Sight}

-- ---- the clock of a variable that a block declares, as it is written: outermost first

abbrev pub own_path : Decl → List (Cons × List ℕ)
own_path d = elim d.clock [ None ↦ [] | Some path ↦ path ]

abbrev pub path_of : List Decl → List ℕ → List (Cons × List ℕ)
path_of [] x = []
path_of (d ∷ ds) x = if bytes_eq d.name x then own_path d else path_of ds x

abbrev pub path_at : List Decl → ℕ → List (Cons × List ℕ)
path_at [] i = []
path_at (d ∷ ds) zero = own_path d
path_at (d ∷ ds) (suc i) = path_at ds i
