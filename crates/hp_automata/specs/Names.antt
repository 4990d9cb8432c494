-- Which names there are among some, and each of them once.
use Rattle.std.specs.Prelude.{ℕ, Bool, true, false, if◌then◌else◌, List, [], ◌∷◌, ◌++◌}
use Rattle.std.specs.Str.{bytes_eq}

abbrev pub is_name : List (List ℕ) → List ℕ → Bool
is_name [] x = false
is_name (y ∷ ys) x = if bytes_eq x y then true else is_name ys x

-- those of some names that are none of others
abbrev pub missing : (List ℕ → Bool) → List (List ℕ) → List (List ℕ)
missing own [] = []
missing own (x ∷ xs) = if own x then missing own xs else x ∷ missing own xs

-- some names, and one more behind them where it is none of them
abbrev pub with_name : List (List ℕ) → List ℕ → List (List ℕ)
with_name xs x = if is_name xs x then xs else xs ++ x ∷ []

abbrev pub once_behind : List (List ℕ) → List (List ℕ) → List (List ℕ)
once_behind xs [] = xs
once_behind xs (y ∷ ys) = once_behind (with_name xs y) ys

-- some names, each once, in the order in which they come first
abbrev pub once : List (List ℕ) → List (List ℕ)
once ys = once_behind [] ys
