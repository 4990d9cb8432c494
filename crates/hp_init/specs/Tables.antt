-- What tables hold of names, as functions of them.
use Rattle.std.specs.Prelude.{ℕ, Bool, if◌then◌else◌, List, [], ◌∷◌, Option, None, Some, is_some, option_map}
use Rattle.std.specs.Borrow.{Bor}
use Rattle.std.specs.Str.{bytes_eq}
use Rattle.indexmap.specs.IndexMap.{IndexMap, get_by}
use Rattle.hp_tree.specs.Blocks.{Decl}
use Rattle.hp_tables.specs.declared.defining.layer.Layer.{Layer}
use Rattle.hp_tables.specs.Defining.Layers.{numbered}
use Rattle.hp_init.specs.Asks.{Sight}

-- ---- the variables that a block declares, and whether each is declared `last`

abbrev pub holds : {S : Type 0} → IndexMap (Bor (List ℕ)) Bool S → List ℕ → Option Bool
holds names x = get_by (λ k. bytes_eq x k.now) names

abbrev pub declared_in : List Decl → List ℕ → Option Bool
declared_in [] x = None
declared_in (d ∷ ds) x = if bytes_eq d.name x then Some (is_some d.last) else declared_in ds x
