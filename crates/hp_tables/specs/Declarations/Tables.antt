-- Tables, as functions of names.
-- Source: own.
use Rattle.std.specs.Prelude.{ℕ, ◌+◌, if◌then◌else◌, List, [], ◌∷◌, Option, None, Some}
use Rattle.std.specs.Str.{bytes_eq}
use Rattle.indexmap.specs.IndexMap.{get_by}
use Rattle.hp_tables.specs.declared.declarations.table.Table.{Table}

module _ {A : Type 0} where
  -- what a table says of a name
  abbrev pub said_in : Table A → List ℕ → Option A
  said_in t x = get_by (λ k. bytes_eq x k.now) t.entries

  abbrev pub put_at : (List ℕ → Option A) → List ℕ → A → List ℕ → Option A
  put_at f y v x = if bytes_eq y x then Some v else f x

  abbrev pub nothing : List ℕ → Option A
  nothing x = None

-- the number of a name among others that are numbered from k on
abbrev pub numbered : ℕ → List (List ℕ) → List ℕ → Option ℕ
numbered k [] x = None
numbered k (y ∷ ys) x = if bytes_eq y x then Some k else numbered (k + 1) ys x
