-- Names as the code holds them.
use Rattle.std.specs.Prelude.{ℕ, Bool, ◌||◌, List, ◌++◌, map}
use Rattle.std.specs.Borrow.{Bor}
use Rattle.std.specs.HashSet.{HashSet, contains_by}
use Rattle.std.specs.Str.{bytes_eq}

abbrev pub names_seen : List (Bor (List ℕ)) → List (List ℕ)
names_seen names = map (λ (x : Bor (List ℕ)). x.now) names

-- a list and more behind it
unfoldable pub with_more : {A : Type 0} → List A → List A → List A
with_more before more = before ++ more

-- what is in a set of names
abbrev pub holds : {S : Type 0} → HashSet (Bor (List ℕ)) S → List ℕ → Bool
holds set x = contains_by (λ k. bytes_eq x k.now) set

abbrev pub with_held : (List ℕ → Bool) → List ℕ → List ℕ → Bool
with_held known y x = bytes_eq y x || known x
