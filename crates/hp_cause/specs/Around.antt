-- Which of the names around a place are among some, by their places.
use Rattle.std.specs.Prelude.{ℕ, ◌+◌, Bool, if◌then◌else◌, List, [], ◌∷◌, ◌++◌, Option, None, Some, position, slice_get}
use Rattle.std.specs.Str.{bytes_eq}
use Rattle.hp_base.specs.declared.span.Span.{Span}
use Rattle.hp_cause.specs.Facts.{Fact}
use Rattle.hp_cause.specs.Gathering.{Sight, in_list, of_defined_name}

-- the places, counted from k on, of the names that are wanted
abbrev pub places_from : ℕ → (List ℕ → Bool) → List (List ℕ) → List ℕ
places_from k wanted [] = []
places_from k wanted (x ∷ xs) = if wanted x then k ∷ places_from (k + 1) wanted xs else places_from (k + 1) wanted xs

-- the first places of some names, where they have one, in the order of these names
abbrev pub first_places : List (List ℕ) → List (List ℕ) → List ℕ
first_places around [] = []
first_places around (y ∷ ys) = in_list (position (bytes_eq y) around) ++ first_places around ys

abbrev pub of_place : Sight → Option ℕ → Option ℕ → Span → Option (List ℕ) → List Fact
of_place see control v at None = []
of_place see control v at (Some x) = of_defined_name see control v at x

-- what is said of the names at some places
abbrev pub of_places : Sight → Option ℕ → Option ℕ → Span → List (List ℕ) → List ℕ → List Fact
of_places see control v at around [] = []
of_places see control v at around (p ∷ ps) = of_place see control v at (slice_get around p) ++ of_places see control v at around ps
