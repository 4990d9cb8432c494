-- Names that are gathered one after the other, and the declarations of names.
use Rattle.std.specs.Prelude.{ℕ, if◌then◌else◌, List, [], ◌∷◌, ◌++◌, map, Option, None, Some}
use Rattle.std.specs.Borrow.{Bor}
use Rattle.std.specs.Str.{bytes_eq}
use Rattle.hp_tree.specs.Blocks.{Decl}
use Rattle.law_equations.specs.Made.Making.{is_in}

-- names, as the code holds them
abbrev pub names_seen : List (Bor (List ℕ)) → List (List ℕ)
names_seen names = map (λ (x : Bor (List ℕ)). x.now) names

-- a list and more behind it
unfoldable pub with_more : {A : Type 0} → List A → List A → List A
with_more before more = before ++ more

-- a name behind others, if it is none of them
abbrev pub with_once : List (List ℕ) → List ℕ → List (List ℕ)
with_once found x = if is_in found x then found else found ++ x ∷ []

abbrev pub with_each_once : List (List ℕ) → List (List ℕ) → List (List ℕ)
with_each_once found [] = found
with_each_once found (x ∷ xs) = with_each_once (with_once found x) xs

-- the declaration of a name; of two the first counts
abbrev pub decl_of : List Decl → List ℕ → Option Decl
decl_of [] x = None
decl_of (d ∷ ds) x = if bytes_eq d.name x then Some d else decl_of ds x
