-- The names of the clock that is told of a definition.
use Rattle.std.specs.Prelude.{ℕ, List, [], ◌∷◌, ◌++◌, Option, None, Some, reverse}
use Rattle.hp_tree.specs.Blocks.{Decl}
use Rattle.hp_tables.specs.Telling.Tellings.{Told, at_base, as_of, one_more}
use Rattle.hp_cause.specs.Gathering.{names_of_clock}
use Rattle.hp_cause.specs.Tables.{path_of}

-- innermost first
abbrev pub names_told : List Decl → Option Told → List (List ℕ)
names_told ds None = []
names_told ds (Some at_base) = []
names_told ds (Some (as_of x)) = names_of_clock (reverse (path_of ds x))
names_told ds (Some (one_more c x)) = (x ∷ []) ++ names_of_clock (reverse (path_of ds x))
