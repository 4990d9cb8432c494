-- The path of the clock that is told of a definition.
use Rattle.std.specs.Prelude.{ℕ, List, [], ◌∷◌, ◌++◌, Option, None, Some}
use Rattle.hp_tree.specs.declared.decl.Cons.{Cons}
use Rattle.hp_tree.specs.Blocks.{Decl}
use Rattle.hp_tables.specs.Telling.Tellings.{Told, at_base, as_of, one_more}
use Rattle.law_equations.specs.Made.Making.{path_of}

-- the path that is told, outermost first
abbrev pub told_path : List Decl → Option Told → List (Cons × List ℕ)
told_path ds None = []
told_path ds (Some at_base) = []
told_path ds (Some (as_of x)) = path_of ds x
told_path ds (Some (one_more c x)) = path_of ds x ++ (c, x) ∷ []
