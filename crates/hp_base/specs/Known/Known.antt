-- What is known of names: a list of entries, one for each name. A name is its bytes.
use Rattle.std.specs.Prelude.{ℕ, List, [], ◌∷◌, ◌++◌, Option, None, Some, is_some, if◌then◌else◌}
use Rattle.std.specs.Str.{bytes_eq}

module _ {A : Type 0} where
  -- what is known of a name
  abbrev pub lookup : List (List ℕ × A) → List ℕ → Option A
  lookup [] x = None
  lookup (e ∷ es) x = if bytes_eq x e.0 then Some e.1 else lookup es x

  -- the entries, and one more behind them where the name has none yet
  abbrev pub with_entry : List (List ℕ × A) → List ℕ → A → List (List ℕ × A)
  with_entry es x a = if is_some (lookup es x) then es else es ++ (x, a) ∷ []
